-- What a far store holds after some pieces, and what it does with the next.
use Rattle.std.specs.Prelude.{◌≡◌, ℕ, suc, ◌+◌, ◌-◌, Bool, true, List, [], ◌∷◌, ◌++◌, length, map, take, drop, replicate}
use Rattle.std.specs.List.{range_with_len}
use Rattle.pdh_shape.specs.Frame.{FrameShape}
use Rattle.pdh_shape.specs.OwnNumbers.{threshold}
use Rattle.pdh_desync.specs.FarStore.{FarPiece, came, reads_more, reads_over, comes_over}
use Rattle.pdh_desync.specs.Held.{Held}

-- how many bits are read in these pieces
abbrev pub read_in : FrameShape → ℕ → List FarPiece → ℕ
read_in s j pieces = reads_over s j pieces 0 (length pieces)

-- what comes out of the store in these pieces, which bring these bits; it is what `smooth` says of a line's pieces
abbrev pub smooth_of : FrameShape → ℕ → List FarPiece → List Bool → List Bool
smooth_of s j pieces got = take (read_in s j pieces - threshold) got

-- one bit for each piece
abbrev pub marks_of : FrameShape → ℕ → List FarPiece → List Bool
marks_of s j pieces = map (reads_more s j pieces) (range_with_len 0 (length pieces))

-- the store after these pieces, which brought these bits
pub record FarHolds (s : FrameShape) (j : ℕ) (pieces : List FarPiece) (got : List Bool) (held : Held) : Type 0 where
  pub come : length got ≡ comes_over s j pieces 0 (length pieces)
  pub bits : held.bits ≡ drop (read_in s j pieces) (replicate threshold true ++ got)
  pub ones : held.ones ≡ threshold - read_in s j pieces
  pub room : held.room ≡ threshold + suc s.low

-- the store got some pieces, and now one comes with so many bits
pub record CanPass (s : FrameShape) (j count : ℕ) (held : Held) : Type 0 where
  pub pieces : List FarPiece
  pub got : List Bool
  pub holds : FarHolds s j pieces got held
  pub piece : FarPiece
  pub brought : count ≡ came s j piece

-- one more piece came with these bits: what comes out by it, and its mark
pub record FarPasses (s : FrameShape) (j : ℕ) (pieces : List FarPiece) (got : List Bool) (piece : FarPiece) (bits : List Bool) (held : Held) (out : List Bool) (mark : Bool) : Type 0 where
  pub holds : FarHolds s j (pieces ++ piece ∷ []) (got ++ bits) held
  pub smooth_is : smooth_of s j (pieces ++ piece ∷ []) (got ++ bits) ≡ smooth_of s j pieces got ++ out
  pub marks_are : marks_of s j (pieces ++ piece ∷ []) ≡ marks_of s j pieces ++ mark ∷ []
