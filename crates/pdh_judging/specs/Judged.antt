-- Which frames of a line are judged by its alignment, and how many of them are right.
use Rattle.std.specs.Prelude.{◌≡◌, ◌⊎◌, ℕ, suc, ◌+◌, ◌-◌, ◌*◌, ◌^◌, ◌≤◌, min, Bool, true, false, nat_le, ◌&&◌, if◌then◌else◌, List, [], ◌∷◌, ◌++◌, fold}
use Rattle.pdh_shape.specs.Frame.{FrameShape, is_right}
use Rattle.pdh_line.specs.Tracking.{Piece, track}
use Rattle.pdh_line.specs.Tracking.Piece.{Gap, Delivered}
use Rattle.pdh_align.specs.declared.step.Step.{Step}
use Rattle.pdh_align.specs.declared.step.Step.TheVariants.{Frame, Lost}
use Rattle.pdh_align.specs.Aligning.{Held, StandsFor, frame_back}
use Rattle.pdh_judging.specs.declared.judged.Judged.{Judged}

-- how many delivered frames in a row stand at the end of a line's pieces, with one piece more
abbrev pub run_with : ℕ → Piece → ℕ
run_with run (Gap n) = 0
run_with run (Delivered frame) = suc run

abbrev pub run_of : List Piece → ℕ
run_of pieces = fold run_with 0 pieces

-- How many pieces that pass a test have three delivered frames or more in a row before them, where so many stand before all of
-- these. Three right frames confirm an alignment and prove nothing by themselves; the pieces behind them are its further frames,
-- and the gap that begins with the frame that completed its loss.
abbrev pub count_judged : (Piece → Bool) → ℕ → List Piece → ℕ
count_judged test run [] = 0
count_judged test run (piece ∷ pieces) = (if nat_le 3 run && test piece then 1 else 0) + count_judged test (run_with run piece) pieces

-- any piece, and a right frame
abbrev pub is_any : Piece → Bool
is_any piece = true

abbrev pub is_right_frame : FrameShape → Piece → Bool
is_right_frame s (Gap n) = false
is_right_frame s (Delivered frame) = is_right s frame

-- what a count tells of so many: where it reaches its type's end, it stands there
abbrev pub capped : ℕ → ℕ
capped n = min n (2 ^ 64 - 1)

-- the frames that are judged in a line's pieces, and the right ones of them
abbrev pub judged_of : FrameShape → List Piece → Judged
judged_of s pieces = record { frames = capped (count_judged is_any 0 pieces); right = capped (count_judged (is_right_frame s) 0 pieces) }

-- those of a line, by its tracking from its first bit on
unfoldable pub judged_in : FrameShape → List Bool → Judged
judged_in s line = judged_of s (track s line)

-- ---- the tests (this project's own numbers)

-- a line of so many bits is one of a shape of so many slots at the top of a chain
abbrev pub stands_at_top : ℕ → ℕ → Judged → Bool
stands_at_top len bits judged =
    nat_le 5 judged.right && nat_le (3 * judged.frames) (4 * judged.right) && nat_le bits (8 * judged.right * len)

-- a line is one of its shape below the top
abbrev pub stands_below : Judged → Bool
stands_below judged = nat_le 5 judged.right && nat_le judged.frames (2 * judged.right)

-- ---- while a line's bits come

abbrev pub with_frame : Judged → Bool → Judged
with_frame judged right = record { frames = capped (judged.frames + 1); right = (if right then capped (judged.right + 1) else judged.right) }

-- what is judged after a step of the alignment machine that made these frames ready
abbrev pub after_step : FrameShape → Judged → Step → List (List Bool) → Judged
after_step s judged Frame ready = with_frame judged (is_right s (frame_back ready 0))
after_step s judged Lost ready = with_frame judged false
after_step s judged _ ready = judged

-- a line's pieces end with no delivered frame, or with three at least
abbrev pub IsRun : ℕ → Type 0
IsRun run = (run ≡ 0) ⊎ (3 ≤ run)

-- what is kept of a line while it is judged
pub record Judges (s : FrameShape) (judged : Judged) (line : List Bool) : Type 0 where
  pub judged_is : judged ≡ judged_in s line
  pub run : IsRun (run_of (track s line))

-- the aligner stands for a line with these bits added, by which no frame was judged, and by which no alignment began or ended
pub record Glides (s : FrameShape) (after : Held) (front bits : List Bool) : Type 0 where
  pub stands : StandsFor s after (front ++ bits)
  pub judges : (judged : Judged) → Judges s judged front → Judges s judged (front ++ bits)
