-- What an alignment machine holds, what it stands for, and what each of its steps says of the tracking.
use Rattle.std.specs.Prelude.{◌≡◌, ℕ, suc, ◌+◌, ◌-◌, ◌*◌, ◌≤◌, Bool, true, false, nat_lt, if◌then◌else◌, List, [], ◌∷◌, ◌++◌, length, map, take, drop}
use Rattle.std.specs.List.{slice_index_or}
use Rattle.pdh_align.specs.declared.step.Step.{Step}
use Rattle.pdh_align.specs.declared.step.Step.TheVariants.{Nothing, Rejected, Aligned, Frame, Lost}
use Rattle.pdh_shape.specs.declared.role.Marks.{Marks}
use Rattle.pdh_shape.specs.Frame.{FrameShape, wrong, clean}
use Rattle.pdh_line.specs.Tracking.{Piece, frame_of, is_confirmed, positions, is_found, aligned, marks_back, delivered, is_lost, after_loss, track}
use Rattle.pdh_line.specs.Tracking.Piece.{Gap, Delivered}
use Rattle.pdh_align.specs.OpenGap.{covered}
use Rattle.pdh_align.specs.Searching.{Sought, Searches}

-- what an aligner holds: in a search the bits from the oldest position on that is not yet rejected; in an alignment
-- what was wrong in the last three frames, and the bits that came since the last whole frame
pub data Phase : Type 0 where
  Searching : List Bool → Phase
  Tracking : Marks → Marks → Marks → List Bool → Phase

-- what an aligner holds of the bits since its search began
abbrev pub Describes : FrameShape → Phase → List Bool → Type 0
Describes s (Searching held) line = (is_found s line ≡ false) × (held ≡ drop (positions s line) line)
Describes s (Tracking a b c part) line =
    (is_found s line ≡ true) × (is_lost s line ≡ false) × (a ≡ marks_back s (aligned s line) (delivered s line) 3)
    × (b ≡ marks_back s (aligned s line) (delivered s line) 2) × (c ≡ marks_back s (aligned s line) (delivered s line) 1)
    × (part ≡ after_loss s line)

-- what is held follows from the received bits: some pieces, which cover those in front, are settled, whatever comes, and it
-- describes the bits since
pub record Follows (s : FrameShape) (phase : Phase) (line : List Bool) : Type 0 where
  pub settled : List Piece
  pub front : List Bool
  pub since : List Bool
  pub parts : line ≡ front ++ since
  pub covers : length front ≡ covered s settled
  pub splits : (more : List Bool) → track s (line ++ more) ≡ settled ++ track s (since ++ more)
  pub describes : Describes s phase since

-- what a search keeps stands for the bits since it began
abbrev pub SearchesSince : FrameShape → Sought → Phase → List Bool → Type 0
SearchesSince s search (Searching held) since = Searches s search held since
SearchesSince s search (Tracking a b c part) since = Unit {0}

-- what contracts see of an aligner: what it holds, what its search keeps, and the frames that its last step made ready
pub record Held : Type 0 where
  pub phase : Phase
  pub search : Sought
  pub ready : List (List Bool)

-- the aligner stands for the received bits
pub record StandsFor (s : FrameShape) (held : Held) (line : List Bool) : Type 0 where
  pub follows : Follows s held.phase line
  pub searches : SearchesSince s held.search held.phase follows.since

-- how the pieces grow in a step that makes these frames ready
abbrev pub Grows : Step → List (List Bool) → List Piece → List Piece → Type 0
Grows Nothing ready before after = (ready ≡ []) × (after ≡ before)
Grows Rejected ready before after = (others : List Piece) × (n : ℕ) × (ready ≡ []) × (before ≡ others ++ Gap n ∷ []) × (after ≡ others ++ Gap (suc n) ∷ [])
Grows Aligned ready before after = (others : List Piece) × (n : ℕ) × (length ready ≡ 3) × (before ≡ others ++ Gap n ∷ []) × (after ≡ before ++ map Delivered ready)
Grows Frame ready before after = (others : List Piece) × (last : List Bool) × (length ready ≡ 1) × (before ≡ others ++ Delivered last ∷ []) × (after ≡ before ++ map Delivered ready)
Grows Lost ready before after = (others : List Piece) × (last : List Bool) × (ready ≡ []) × (before ≡ others ++ Delivered last ∷ []) × (after ≡ before ++ Gap 0 ∷ [])

-- what an aligner does with a bit
pub record Turn : Type 0 where
  pub phase : Phase
  pub step : Step
  pub ready : List (List Bool)

unfoldable pub turn : FrameShape → Phase → Bool → Turn
turn s (Searching held) bit =
    let now = held ++ bit ∷ [] in
    (if nat_lt (length now) (3 * s.len) then record { phase = Searching now; step = Nothing; ready = [] }
    else (if is_confirmed s now then record { phase = Tracking (clean) (clean) (clean) []; step = Aligned; ready = map (frame_of s now) (0 ∷ 1 ∷ 2 ∷ []) }
    else record { phase = Searching (drop 1 now); step = Rejected; ready = [] }))
turn s (Tracking a b c part) bit =
    let now = part ++ bit ∷ [] in
    (if nat_lt (length now) s.len then record { phase = Tracking a b c now; step = Nothing; ready = [] }
    else (if s.loses a b c (wrong s now) then record { phase = Searching now; step = Lost; ready = [] }
    else record { phase = Tracking b c (wrong s now) []; step = Frame; ready = now ∷ [] }))

-- the frame that stands so many frames before the newest of the ready ones
abbrev pub frame_back : List (List Bool) → ℕ → List Bool
frame_back ready back = slice_index_or ready (length ready - suc back) []

-- how many frames a step makes ready
abbrev pub frames_gained : Step → ℕ
frames_gained Aligned = 3
frames_gained Frame = 1
frames_gained _ = 0

-- a search went on by a bit, or begins anew with the bits that are held
abbrev pub SearchGoesOn : FrameShape → Bool → Sought → Sought → Phase → Phase → Type 0
SearchGoesOn s bit old new (Searching held) (Searching now) = (since : List Bool) → Searches s old held since → Searches s new now (since ++ bit ∷ [])
SearchGoesOn s bit old new (Tracking a b c part) (Searching now) = Searches s new now now
SearchGoesOn s bit old new before (Tracking a b c part) = Unit {0}

-- the aligner's last step is what its definition says of the bit
pub record Turns (s : FrameShape) (before after : Held) (bit : Bool) (step : Step) : Type 0 where
  pub phase : after.phase ≡ (turn s before.phase bit).phase
  pub step_is : step ≡ (turn s before.phase bit).step
  pub ready : after.ready ≡ (turn s before.phase bit).ready
  pub search : SearchGoesOn s bit before.search after.search before.phase after.phase

-- whatever line the state before stood for, the state after stands for it with the bit added, and the step is what its tracking gained
pub record Tracks (s : FrameShape) (before after : Held) (bit : Bool) (step : Step) (line : List Bool) : Type 0 where
  pub stands : StandsFor s after (line ++ bit ∷ [])
  pub grows : Grows step after.ready (track s line) (track s (line ++ bit ∷ []))

-- the state after stands for the line with these bits added, by none of which its tracking gained anything
pub record Waits (s : FrameShape) (after : Held) (bits line : List Bool) : Type 0 where
  pub stands : StandsFor s after (line ++ bits)
  pub same : track s (line ++ bits) ≡ track s line
  pub each : (k : ℕ) → track s (line ++ take k bits) ≡ track s line

-- the state after stands for the line with these bits added, by each of which its tracking's gap grew by a position
pub record Passes (s : FrameShape) (after : Held) (bits line : List Bool) : Type 0 where
  pub stands : StandsFor s after (line ++ bits)
  pub others : List Piece
  pub gap : ℕ
  pub was : track s line ≡ others ++ Gap gap ∷ []
  pub is : track s (line ++ bits) ≡ others ++ Gap (gap + length bits) ∷ []
  pub each : (k : ℕ) → k ≤ length bits → track s (line ++ take k bits) ≡ others ++ Gap (gap + k) ∷ []
