-- Frames of 256 bits and their alignment signal (G.704, 2.3.1 and 2.3.2), and a search for them (G.706, 4.1.2). Where a
-- search begins is this project's own.
use Rattle.std.specs.Prelude.{ℕ, ◌+◌, ◌-◌, ◌*◌, ◌/◌, Bool, true, false, nat_lt, nat_le, ◌&&◌, List, [], ◌∷◌, length, map, take, drop}
use Rattle.std.specs.Bool.{beq}
use Rattle.std.specs.List.{range_with_len, list_all, slice_index_or}
use Rattle.pdh_line.specs.Least.{least_below}

-- a bit of a list, counted from 0
abbrev pub bit_of : List Bool → ℕ → Bool
bit_of bits place = slice_index_or bits place false

-- frame k of a line that is cut into frames from its first bit on
abbrev pub frame_of : List Bool → ℕ → List Bool
frame_of line k = take 256 (drop (256 * k) line)

-- the whole frames of such a line
unfoldable pub frames_of : List Bool → List (List Bool)
frames_of line = map (frame_of line) (range_with_len 0 (length line / 256))

-- the bits of a signal stand at these places
abbrev pub stands_at : List Bool → (ℕ → Bool) → Bool
stands_at signal bits = list_all (λ i. beq (bits i) (bit_of signal i)) (range_with_len 0 (length signal))

-- the frame alignment signal 0011011
abbrev pub alignment_signal : List Bool
alignment_signal = false ∷ false ∷ true ∷ true ∷ false ∷ true ∷ true ∷ []

-- it stands in bits 2 to 8 of a frame
unfoldable pub has_signal : List Bool → Bool
has_signal frame = stands_at alignment_signal (λ i. bit_of frame (i + 1))

-- ---- a search

-- three whole frames stand at the line's first bit: the signal, then a frame whose bit 2 is 1, then the signal
unfoldable pub is_confirmed : List Bool → Bool
is_confirmed line = nat_le 768 (length line) && has_signal (frame_of line 0) && bit_of (frame_of line 1) 1 && has_signal (frame_of line 2)

-- at how many positions of the line three whole frames stand
abbrev pub positions : List Bool → ℕ
positions line = length line + 1 - 768

-- the least confirmed position, or the number of positions where none is confirmed
unfoldable pub gap_of : List Bool → ℕ
gap_of line = least_below (positions line) (λ p. is_confirmed (drop p line))

-- some position is confirmed
abbrev pub is_found : List Bool → Bool
is_found line = nat_lt (gap_of line) (positions line)

-- the line from the least confirmed position on
abbrev pub aligned : List Bool → List Bool
aligned line = drop (gap_of line) line
