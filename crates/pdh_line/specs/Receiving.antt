-- What a demultiplexer gives to each tributary.
use Rattle.std.specs.Prelude.{ℕ, ◌*◌, ◌/◌, Bool, true, List, flat_map, replicate}
use Rattle.pdh_shape.specs.Frame.{FrameShape}
use Rattle.pdh_shape.specs.Tributary.{stripped}
use Rattle.pdh_line.specs.Tracking.{Piece, track}
use Rattle.pdh_line.specs.Tracking.Piece.{Gap, Delivered}

-- what a piece of the tracking gives to tributary j: for each whole frame's length of a gap as many ones as a frame
-- carries at least, which is this project's own count, and a delivered frame's own bits
unfoldable pub piece_bits : FrameShape → ℕ → Piece → List Bool
piece_bits s j (Gap n) = replicate (n / s.len * s.low) true
piece_bits s j (Delivered frame) = stripped s j frame

-- the received line of tributary j of a node whose received line this is
unfoldable pub received : FrameShape → ℕ → List Bool → List Bool
received s j line = flat_map (piece_bits s j) (track s line)
