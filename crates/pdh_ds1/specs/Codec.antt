-- Lines that are whole superframes, and what packing and unpacking answer.
use Rattle.std.specs.Prelude.{◌≡◌, ◌≢◌, ℕ, ◌/◌, ◌%◌, ◌<◌, Bool, List, length}
use Rattle.pdh_bits.specs.Bits.{bits_of, bytes_of}
use Rattle.pdh_framed.specs.RightFrames.{AreRight, FirstWrong}
use Rattle.pdh_shape.specs.declared.role.Role.{Role}
use Rattle.pdh_ds1.specs.declared.form.Frame1.{Frame1}
use Rattle.pdh_ds1.specs.declared.form.Frame1.TheVariants.{Super, Extended}
use Rattle.pdh_ds1.specs.declared.fault.Ds1PackFault.{Ds1PackFault}
use Rattle.pdh_ds1.specs.declared.fault.Ds1PackFault.TheVariants as pack_faults
use Rattle.pdh_ds1.specs.declared.fault.Ds1UnpackFault.{Ds1UnpackFault}
use Rattle.pdh_ds1.specs.declared.fault.Ds1UnpackFault.TheVariants as unpack_faults
use Rattle.pdh_ds1.specs.Plans.{sf_f_bits, esf_f_bits}
use Rattle.pdh_ds1.specs.Packing.{frame_right, FramePacked, line_payload, packed_frames}

-- the F bits of a form, and how many frames its superframes have
abbrev pub f_bits_of : Frame1 → List Role
f_bits_of Super = sf_f_bits
f_bits_of Extended = esf_f_bits

abbrev pub frames_of : Frame1 → ℕ
frames_of Super = 12
frames_of Extended = 24

-- the number of whole frames of a line of octets
abbrev pub frames_in : List ℕ → ℕ
frames_in line = length (bits_of line) / 193

-- a frame of a line of octets is right
abbrev pub right_in : Frame1 → List ℕ → ℕ → Bool
right_in form line = frame_right (f_bits_of form) (frames_of form) (bits_of line)

-- a line of whole superframes, each frame of which is right; 24 frames are 579 octets
pub record IsSuperframes (form : Frame1) (line : List ℕ) : Type 0 where
  pub whole : length line % 579 ≡ 0
  pub right : AreRight (right_in form line) (frames_in line)

-- the payload of a line, in order
abbrev pub payload_of : List ℕ → List ℕ
payload_of line = bytes_of (line_payload (bits_of line) (frames_in line))

-- the line of superframes of a payload, with ones in the data link
pub record IsPacked (form : Frame1) (payload : List ℕ) (line : List ℕ) : Type 0 where
  pub framed : IsSuperframes form line
  pub carries : payload_of line ≡ payload
  pub idle : (frame : ℕ) → frame < frames_in line → FramePacked (f_bits_of form) (frames_of form) (bits_of line) frame

-- that line, frame by frame: a frame carries 24 octets
unfoldable pub packed_line : Frame1 → List ℕ → List ℕ
packed_line form payload = bytes_of (packed_frames (f_bits_of form) (frames_of form) (bits_of payload) (length payload / 24))

-- why a payload isn't packed; 24 frames carry 576 octets. Want of memory is told of whole payloads only
abbrev pub IsNotPacked : List ℕ → Ds1PackFault → Type 0
IsNotPacked payload (pack_faults.NotWhole len) = (len ≡ length payload) × (length payload % 576 ≢ 0)
IsNotPacked payload pack_faults.Memory = length payload % 576 ≡ 0

-- a line is unpacked to this payload
pub record IsUnpacked (form : Frame1) (line : List ℕ) (payload : List ℕ) : Type 0 where
  pub framed : IsSuperframes form line
  pub carried : payload ≡ payload_of line

-- why a line isn't unpacked. Want of memory is told of whole superframes only
abbrev pub IsNotUnpacked : Frame1 → List ℕ → Ds1UnpackFault → Type 0
IsNotUnpacked form line (unpack_faults.NotWhole len) = (len ≡ length line) × (length line % 579 ≢ 0)
IsNotUnpacked form line (unpack_faults.Wrong frame) = (length line % 579 ≡ 0) × FirstWrong (right_in form line) (frames_in line) frame
IsNotUnpacked form line unpack_faults.Memory = length line % 579 ≡ 0

-- a line is unpacked to this payload, unless memory runs out
pub record UnpacksTo (form : Frame1) (payload : List ℕ) (line : List ℕ) : Type 0 where
  pub same : (unpacked : List ℕ) → IsUnpacked form line unpacked → unpacked ≡ payload
  pub no_fault : (fault : Ds1UnpackFault) → IsNotUnpacked form line fault → fault ≡ unpack_faults.Memory

-- what was packed is unpacked to the same payload
abbrev pub PackedIsGivenBack : Type 0
PackedIsGivenBack = (form : Frame1) (payload line : List ℕ) → IsPacked form payload line → UnpacksTo form payload line
