-- What a received line of superframes gives: the payload of the superframes of its tracking, and the blocks that are judged.
use Rattle.std.specs.Prelude.{ℕ, ◌+◌, ◌*◌, ◌/◌, Bool, false, not, ◌==◌, List, [], ◌∷◌, ◌++◌, map, flat_map, Option, Some, None}
use Rattle.std.specs.List.{range_with_len, slice_index_or}
use Rattle.pdh_bits.specs.Bits.{number_of}
use Rattle.pdh_line.specs.Tracking.{Piece, track}
use Rattle.pdh_line.specs.Tracking.Piece.{Gap, Delivered}
use Rattle.pdh_shape.specs.Frame.{FrameShape}
use Rattle.pdh_ds1.specs.Packing.{word_of, line_payload}

-- how many DS1 frames a superframe has
abbrev pub frames_of : FrameShape → ℕ
frames_of s = s.len / 193

-- the payload that a piece gives; a gap gives nothing
abbrev pub piece_payload : FrameShape → Piece → List Bool
piece_payload s (Gap n) = []
piece_payload s (Delivered superframe) = line_payload superframe (frames_of s)

-- the payload of a line
unfoldable pub ds1_far : FrameShape → List Bool → List Bool
ds1_far s line = flat_map (piece_payload s) (track s line)

-- ---- blocks of the extended form

-- the word that a superframe carries, in its second frame and every fourth after it
unfoldable pub carried_word : List Bool → ℕ
carried_word superframe = number_of (map (λ i. slice_index_or superframe (193 * (4 * i + 1)) false) (range_with_len 0 6))

-- the word behind a piece, if it is a superframe, which has so many frames
abbrev pub word_behind : ℕ → Piece → Option ℕ
word_behind frames (Gap n) = None
word_behind frames (Delivered superframe) = Some (word_of frames superframe)

-- the judgement of the block before a piece, by its word: it is errored where the next superframe of its alignment doesn't carry
-- its word
abbrev pub judgement : Piece → Option ℕ → List Bool
judgement (Gap n) before = []
judgement (Delivered superframe) None = []
judgement (Delivered superframe) (Some word) = not (carried_word superframe == word) ∷ []

-- the judgements of the blocks of the pieces, in order, behind a piece with this word, if it is a superframe
abbrev pub judgements : ℕ → Option ℕ → List Piece → List Bool
judgements frames before [] = []
judgements frames before (piece ∷ rest) = judgement piece before ++ judgements frames (word_behind frames piece) rest

-- the word behind the last of the pieces
abbrev pub last_word : ℕ → Option ℕ → List Piece → Option ℕ
last_word frames before [] = before
last_word frames before (piece ∷ rest) = last_word frames (word_behind frames piece) rest

unfoldable pub judged : FrameShape → List Bool → List Bool
judged s line = judgements (frames_of s) None (track s line)
