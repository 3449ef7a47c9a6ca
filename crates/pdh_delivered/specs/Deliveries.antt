-- The delivered frames of a line in order, each with the one before it in its alignment.
use Rattle.std.specs.Prelude.{◌≡◌, Bool, List, [], ◌∷◌, ◌++◌, map, fold}
use Rattle.pdh_shape.specs.Frame.{FrameShape}
use Rattle.pdh_line.specs.Tracking.{Piece, track}
use Rattle.pdh_line.specs.Tracking.Piece.{Gap, Delivered}
use Rattle.pdh_align.specs.declared.step.Step.{Step}
use Rattle.pdh_align.specs.declared.step.Step.TheVariants.{Nothing, Rejected, Aligned, Frame, Lost}
use Rattle.pdh_align.specs.Aligning.{Held, StandsFor}

-- a delivered frame, and the one before it, which has no bit where the frame is the first of its alignment
pub record Delivery : Type 0 where
  pub before : List Bool
  pub frame : List Bool

-- the delivered frames of pieces behind this frame, or behind a gap
abbrev pub deliveries_behind : List Bool → List Piece → List Delivery
deliveries_behind last [] = []
deliveries_behind last (Gap n ∷ pieces) = deliveries_behind [] pieces
deliveries_behind last (Delivered frame ∷ pieces) = record { before = last; frame = frame } ∷ deliveries_behind frame pieces

-- those of a line, by its tracking from its first bit on
unfoldable pub deliveries : FrameShape → List Bool → List Delivery
deliveries s line = deliveries_behind [] (track s line)

-- ---- a bit more

-- the frame with which pieces behind this frame end; no bit where they end with a gap
abbrev pub last_with : List Bool → Piece → List Bool
last_with last (Gap n) = []
last_with last (Delivered frame) = frame

abbrev pub last_of : List Bool → List Piece → List Bool
last_of last pieces = fold last_with last pieces

-- the pieces that begin with a step of the alignment machine that made these frames ready
abbrev pub gained : Step → List (List Bool) → List Piece
gained Aligned ready = map Delivered ready
gained Frame ready = map Delivered ready
gained Lost ready = Gap 0 ∷ []
gained Nothing ready = []
gained Rejected ready = []

-- the aligner stands for a line with these bits added, by which no frame was delivered and no alignment lost
pub record Glides (s : FrameShape) (after : Held) (front bits : List Bool) : Type 0 where
  pub stands : StandsFor s after (front ++ bits)
  pub same : deliveries s (front ++ bits) ≡ deliveries s front
  pub last : last_of [] (track s (front ++ bits)) ≡ last_of [] (track s front)
