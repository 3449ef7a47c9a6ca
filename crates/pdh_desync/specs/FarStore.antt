-- The far store of a tributary: it takes the bits that a demultiplexer finds in uneven slots, and gives them out evenly. All
-- of it is this project's own.
use Rattle.std.specs.Prelude.{ℕ, zero, suc, ◌+◌, ◌-◌, ◌/◌, Bool, nat_le, List, [], ◌∷◌, length, map, replicate, take, flat_map, sum_by}
use Rattle.std.specs.List.{range_with_len, slice_index_or}
use Rattle.pdh_shape.specs.Frame.{FrameShape}
use Rattle.pdh_shape.specs.Tributary.{carries_more, reads_below}
use Rattle.pdh_shape.specs.OwnNumbers.{threshold}
use Rattle.pdh_line.specs.Tracking.{Piece, track}
use Rattle.pdh_line.specs.Tracking.Piece.{Gap, Delivered}
use Rattle.pdh_line.specs.Receiving.{received}
use Rattle.pdh_line.specs.Sending.{arrived_in, carried}

-- ---- pieces

-- what brings bits to the far stores in one frame's time
pub data FarPiece : Type 0 where
  -- ones in the place of a frame
  Ones : FarPiece
  -- a delivered frame
  Frame : List Bool → FarPiece

-- a gap is so many frames of ones as it has whole frames' lengths
abbrev pub far_pieces : FrameShape → Piece → List FarPiece
far_pieces s (Gap n) = replicate (n / s.len) Ones
far_pieces s (Delivered frame) = Frame frame ∷ []

-- the pieces of a received line
unfoldable pub pieces_of : FrameShape → List Bool → List FarPiece
pieces_of s line = flat_map (far_pieces s) (track s line)

-- how many bits of tributary j a piece has brought before slot t: ones spread evenly over the frame, or each bit of a delivered
-- frame in its slot
abbrev pub brought : FrameShape → ℕ → FarPiece → ℕ → ℕ
brought s j Ones t = arrived_in s s.low t
brought s j (Frame frame) t = reads_below s j (carries_more s j frame) t

-- how many it brings
abbrev pub came : FrameShape → ℕ → FarPiece → ℕ
came s j piece = brought s j piece s.len

-- piece n; behind the last one ones
abbrev pub piece_at : List FarPiece → ℕ → FarPiece
piece_at pieces n = slice_index_or pieces n Ones

abbrev pub comes : FrameShape → ℕ → List FarPiece → ℕ → ℕ
comes s j pieces n = came s j (piece_at pieces n)

-- ---- reads

-- how many bits of a tributary are held at the start of piece n. The store begins with ones, as many as the threshold says.
-- An additional bit is read where it holds at least as many.
unfoldable pub start_fill : FrameShape → ℕ → List FarPiece → ℕ → ℕ
start_fill s j pieces zero = threshold
start_fill s j pieces (suc n) =
    let fill = start_fill s j pieces n in
    fill + comes s j pieces n - carried s (nat_le threshold fill)

-- an additional bit is read in piece n
abbrev pub reads_more : FrameShape → ℕ → List FarPiece → ℕ → Bool
reads_more s j pieces n = nat_le threshold (start_fill s j pieces n)

-- how many bits are read in piece n
abbrev pub reads : FrameShape → ℕ → List FarPiece → ℕ → ℕ
reads s j pieces n = carried s (reads_more s j pieces n)

-- how many of them before slot t: they are spread evenly over the piece
abbrev pub read_by : FrameShape → ℕ → List FarPiece → ℕ → ℕ → ℕ
read_by s j pieces n t = arrived_in s (reads s j pieces n) t

-- how many are read over a run of pieces, and how many come
abbrev pub reads_over : FrameShape → ℕ → List FarPiece → ℕ → ℕ → ℕ
reads_over s j pieces first run = sum_by (reads s j pieces) (range_with_len first run)

abbrev pub comes_over : FrameShape → ℕ → List FarPiece → ℕ → ℕ → ℕ
comes_over s j pieces first run = sum_by (comes s j pieces) (range_with_len first run)

-- ---- the fill inside a piece

-- before slot t, and at the piece's end
abbrev pub fill_before : FrameShape → ℕ → List FarPiece → ℕ → ℕ → ℕ
fill_before s j pieces n t = start_fill s j pieces n + brought s j (piece_at pieces n) t - read_by s j pieces n t

-- in slot t, after the bit that arrives and before the one that is read
abbrev pub fill_arrived : FrameShape → ℕ → List FarPiece → ℕ → ℕ → ℕ
fill_arrived s j pieces n t = start_fill s j pieces n + brought s j (piece_at pieces n) (suc t) - read_by s j pieces n t

-- ---- what comes out

-- how many bits are read in all pieces of a line
abbrev pub read_in_all : FrameShape → ℕ → List Bool → ℕ
read_in_all s j line = let pieces = pieces_of s line in reads_over s j pieces 0 (length pieces)

-- the bits of tributary j that come out: the first reads take the ones with which the store begins, and put nothing
unfoldable pub smooth : FrameShape → ℕ → List Bool → List Bool
smooth s j line = take (read_in_all s j line - threshold) (received s j line)

-- one bit for each piece: whether an additional bit is read in it
unfoldable pub marks : FrameShape → ℕ → List Bool → List Bool
marks s j line = let pieces = pieces_of s line in map (reads_more s j pieces) (range_with_len 0 (length pieces))
