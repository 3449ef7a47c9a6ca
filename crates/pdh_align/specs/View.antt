-- What the fields of an aligner stand for.
use Rattle.std.specs.Prelude.{◌≡◌, ◌⊎◌, ℕ, ◌+◌, ◌*◌, ◌/◌, ◌<◌, Bool, true, false, cond, List, [], ◌++◌, length, map, take, drop}
use Rattle.std.specs.List.{range_with_len, slice_index_or}
use Rattle.pdh_bits.specs.BitOut.{BoundedBits}
use Rattle.pdh_shape.specs.declared.role.Marks.{Marks}
use Rattle.pdh_shape.specs.Frame.{FrameShape, clean, wrong}
use Rattle.pdh_align.specs.declared.signals.Signals.{Signals}
use Rattle.pdh_align.specs.Signals.{Judges}
use Rattle.pdh_align.specs.Searching.{Sought, Searches}
use Rattle.pdh_align.specs.Aligning.{Phase, Held, frame_back}
use Rattle.pdh_align.specs.Aligning.Phase.{Searching, Tracking}

-- The bits that an aligner holds are those of its ring and then those of its list, and one of the two has none.

-- frame k of the bits that are held
abbrev pub held_frame : ℕ → List Bool → ℕ → List Bool
held_frame len bits k = take len (drop (k * len) bits)

-- what is held: the bits that the last step made ready are no longer part of a frame to come
abbrev pub phase_of : Bool → Bool → List Marks → List Bool → Phase
phase_of searching fresh before bits =
    cond searching (Searching bits) (Tracking (slice_index_or before 0 clean) (slice_index_or before 1 clean) (slice_index_or before 2 clean) (cond fresh [] bits))

abbrev pub ready_of : ℕ → Bool → List Bool → List (List Bool)
ready_of len fresh bits = cond fresh (map (held_frame len bits) (range_with_len 0 (length bits / len))) []

abbrev pub held_of : ℕ → Bool → Bool → List Marks → List Bool → Sought → Held
held_of len searching fresh before bits search = record { phase = phase_of searching fresh before bits; search = search; ready = ready_of len fresh bits }

-- the frames that are ready stand in the ring, three as a search ends, or in the list, which holds one
abbrev pub StandReady : ℕ → List Bool → List Bool → Type 0
StandReady len held frame = ((length held ≡ 3 * len) × (frame ≡ [])) ⊎ ((held ≡ []) × (length frame ≡ len))

-- the bits of three frames, rounded up to whole words of 64 bits
abbrev pub three_frames : ℕ → ℕ
three_frames len = (3 * len + 63) / 64 * 64

-- what holds of the fields between two calls, where `held` is the ring and `frame` the list
pub record HoldsEnough (s : FrameShape) (len : ℕ) (searching fresh : Bool) (signals : Signals) (held frame : BoundedBits) (search : Sought) (before : List Marks) : Type 0 where
  pub judges : Judges s signals
  -- room for three frames in whole words, and no more
  pub room : held.capacity ≡ three_frames len
  -- room for a frame, and no more
  pub list_room : frame.capacity ≡ len
  pub three : length before ≡ 3
  -- a search holds less than three frames of the bits since it began, all in the ring, and makes no frame ready
  pub short : searching ≡ true → length held.bits < 3 * len
  pub begun : searching ≡ true → (since : List Bool) × Searches s search held.bits since
  pub idle : searching ≡ true → fresh ≡ false
  pub unlisted : searching ≡ true → frame.bits ≡ []
  -- an alignment holds less than a frame, all in the list, beside the frames that are ready
  pub part : searching ≡ false → fresh ≡ false → length frame.bits < len
  pub listed : searching ≡ false → fresh ≡ false → held.bits ≡ []
  pub whole : fresh ≡ true → StandReady len held.bits frame.bits
  -- the last marks are those of the newest ready frame
  pub newest : fresh ≡ true → slice_index_or before 2 clean ≡ wrong s (frame_back (ready_of len fresh (held.bits ++ frame.bits)) 0)
