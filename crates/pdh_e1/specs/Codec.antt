-- Lines that are whole multiframes, and what packing and unpacking answer.
use Rattle.std.specs.Prelude.{◌≡◌, ◌≢◌, ℕ, ◌*◌, ◌/◌, ◌%◌, ◌<◌, List, length, take}
use Rattle.pdh_e1.specs.declared.fault.PackFault.{PackFault}
use Rattle.pdh_e1.specs.declared.fault.PackFault.TheVariants as pack_faults
use Rattle.pdh_e1.specs.declared.fault.UnpackFault.{UnpackFault}
use Rattle.pdh_e1.specs.declared.fault.UnpackFault.TheVariants as unpack_faults
use Rattle.pdh_framed.specs.RightFrames.{AreRight, FirstWrong}
use Rattle.pdh_e1.specs.Multiframe.{frame_right, FramePacked, frames_payload}

-- the number of whole frames of a line
abbrev pub frames_of : List ℕ → ℕ
frames_of line = length line / 32

-- the frames before this one are right
abbrev pub RightUpTo : List ℕ → ℕ → Type 0
RightUpTo line = AreRight (frame_right line)

-- a line of whole multiframes, each frame of which is right
pub record IsMultiframes (line : List ℕ) : Type 0 where
  pub whole : length line % 512 ≡ 0
  pub right : RightUpTo line (frames_of line)

-- the payload of a line, in order
abbrev pub payload_of : List ℕ → List ℕ
payload_of line = frames_payload line (frames_of line)

-- the line of multiframes of a payload, without alarm, and with ones in its Sa and E bits
pub record IsPacked (payload : List ℕ) (line : List ℕ) : Type 0 where
  pub framed : IsMultiframes line
  pub carries : payload_of line ≡ payload
  pub idle : (frame : ℕ) → frame < frames_of line → FramePacked line frame

-- the first frames of that line
pub record IsPackedUpTo (payload : List ℕ) (line : List ℕ) (frames : ℕ) : Type 0 where
  pub long : length line ≡ 32 * frames
  pub idle : (frame : ℕ) → frame < frames → FramePacked line frame
  pub carries : frames_payload line frames ≡ take (31 * frames) payload

-- why a payload isn't packed. Want of memory is told of whole payloads only
abbrev pub IsNotPacked : List ℕ → PackFault → Type 0
IsNotPacked payload (pack_faults.NotWhole len) = (len ≡ length payload) × (length payload % 496 ≢ 0)
IsNotPacked payload pack_faults.Memory = length payload % 496 ≡ 0

-- a line is unpacked to this payload
pub record IsUnpacked (line : List ℕ) (payload : List ℕ) : Type 0 where
  pub framed : IsMultiframes line
  pub carried : payload ≡ payload_of line

-- this frame is the first wrong one of a line
abbrev pub IsFirstWrong : List ℕ → ℕ → Type 0
IsFirstWrong line = FirstWrong (frame_right line) (frames_of line)

-- why a line isn't unpacked. Want of memory is told of right lines only
abbrev pub IsNotUnpacked : List ℕ → UnpackFault → Type 0
IsNotUnpacked line (unpack_faults.NotWhole len) = (len ≡ length line) × (length line % 512 ≢ 0)
IsNotUnpacked line (unpack_faults.Wrong frame) = (length line % 512 ≡ 0) × IsFirstWrong line frame
IsNotUnpacked line unpack_faults.Memory = IsMultiframes line

-- a line is unpacked to this payload, unless memory runs out
pub record UnpacksTo (payload : List ℕ) (line : List ℕ) : Type 0 where
  pub same : (unpacked : List ℕ) → IsUnpacked line unpacked → unpacked ≡ payload
  pub no_fault : (fault : UnpackFault) → IsNotUnpacked line fault → fault ≡ unpack_faults.Memory

-- what was packed is unpacked to the same payload
abbrev pub PackedIsGivenBack : Type 0
PackedIsGivenBack = (payload line : List ℕ) → IsPacked payload line → UnpacksTo payload line
