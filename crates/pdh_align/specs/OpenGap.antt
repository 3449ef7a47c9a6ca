-- A line whose tracking ends in a gap that is still open.
use Rattle.std.specs.Prelude.{◌≡◌, ℕ, Bool, List, [], ◌∷◌, ◌++◌, sum_by}
use Rattle.pdh_shape.specs.Frame.{FrameShape}
use Rattle.pdh_line.specs.Tracking.{Piece, track}
use Rattle.pdh_line.specs.Tracking.Piece.{Gap, Delivered}

-- how many bits of a line a piece covers: a position that was passed over covers one, and a delivered frame its own
abbrev pub bits_covered : FrameShape → Piece → ℕ
bits_covered s (Gap n) = n
bits_covered s (Delivered frame) = s.len

abbrev pub covered : FrameShape → List Piece → ℕ
covered s pieces = sum_by (bits_covered s) pieces

-- the tracking of the line ends in an open gap, and the pieces before that cover the line's first q bits
pub record EndsInGap (s : FrameShape) (line : List Bool) (q : ℕ) : Type 0 where
  pub before : List Piece
  pub gap : ℕ
  pub ends : track s line ≡ before ++ Gap gap ∷ []
  pub from : covered s before ≡ q
