-- Frame alignment over a whole received line: where it is found, which frames are delivered, where it is lost
-- (ITU-T G.742, 4; where a search begins is this project's own).
use Rattle.std.specs.Prelude.{ℕ, zero, suc, ◌+◌, ◌-◌, ◌*◌, ◌/◌, Bool, true, false, nat_lt, nat_le, ◌&&◌, if◌then◌else◌, List, [], ◌∷◌, ◌++◌, length, map, take, drop, count_by}
use Rattle.std.specs.List.{range_with_len}
use Rattle.pdh_shape.specs.declared.role.Marks.{Marks}
use Rattle.pdh_shape.specs.Frame.{FrameShape, wrong, clean, is_right}
use Rattle.pdh_line.specs.Least.{least_below}

-- frame k of a line that is cut into frames from its first bit on
abbrev pub frame_of : FrameShape → List Bool → ℕ → List Bool
frame_of s line k = take s.len (drop (k * s.len) line)

-- how many whole frames the line holds
abbrev pub frames_in : FrameShape → List Bool → ℕ
frames_in s line = length line / s.len

-- ---- a search

-- three whole right frames stand at the line's first bit
abbrev pub is_confirmed : FrameShape → List Bool → Bool
is_confirmed s line =
    nat_le (3 * s.len) (length line) && is_right s (frame_of s line 0) && is_right s (frame_of s line 1) && is_right s (frame_of s line 2)

-- at how many positions of the line three whole frames stand
abbrev pub positions : FrameShape → List Bool → ℕ
positions s line = length line + 1 - 3 * s.len

-- the gap: the least confirmed position, or the number of positions where none is confirmed
unfoldable pub gap_of : FrameShape → List Bool → ℕ
gap_of s line = least_below (positions s line) (λ p. is_confirmed s (drop p line))

-- some position is confirmed
abbrev pub is_found : FrameShape → List Bool → Bool
is_found s line = nat_lt (gap_of s line) (positions s line)

-- the line from the least confirmed position on
abbrev pub aligned : FrameShape → List Bool → List Bool
aligned s line = drop (gap_of s line) line

-- ---- an alignment

-- what is wrong in the frame that stands i frames before frame k of an alignment; frames before the alignment count as right
abbrev pub marks_back : FrameShape → List Bool → ℕ → ℕ → Marks
marks_back s line k i = (if nat_le i k then wrong s (frame_of s line (k - i)) else clean)

-- frame k of an alignment completes a loss, after the three frames before it
unfoldable pub completes_loss : FrameShape → List Bool → ℕ → Bool
completes_loss s line k = s.loses (marks_back s line k 3) (marks_back s line k 2) (marks_back s line k 1) (marks_back s line k 0)

-- how many frames of the alignment are delivered: those before the first that completes a loss
unfoldable pub delivered : FrameShape → List Bool → ℕ
delivered s line = (if is_found s line then least_below (frames_in s (aligned s line)) (completes_loss s (aligned s line)) else 0)

-- the alignment is lost again
unfoldable pub is_lost : FrameShape → List Bool → Bool
is_lost s line = (if is_found s line then nat_lt (delivered s line) (frames_in s (aligned s line)) else false)

-- the line from the first bit of the frame that completes the loss
unfoldable pub after_loss : FrameShape → List Bool → List Bool
after_loss s line = drop (delivered s line * s.len) (aligned s line)

-- ---- the pieces of a line

-- what tracking a line finds: positions that are passed over, and delivered frames
pub data Piece : Type 0 where
  Gap : ℕ → Piece
  Delivered : List Bool → Piece

-- the gap of one search and the frames of its alignment
unfoldable pub one_search : FrameShape → List Bool → List Piece
one_search s line = Gap (gap_of s line) ∷ map (λ k. Delivered (frame_of s (aligned s line) k)) (range_with_len 0 (delivered s line))

-- the pieces of a line, by at most so many searches
unfoldable pub track_within : ℕ → FrameShape → List Bool → List Piece
track_within zero s line = []
track_within (suc searches) s line =
    one_search s line ++ elim (is_lost s line) [ true ↦ track_within searches s (after_loss s line) | false ↦ [] ]

-- The pieces of a line: a gap, the frames up to a loss, and so on from the first bit of the frame that completes it.
-- Each search but the first begins at least one bit later, so there are no more of them than bits and one.
unfoldable pub track : FrameShape → List Bool → List Piece
track s line = track_within (length line + 1) s line

-- a piece is a delivered frame
abbrev pub is_delivered : Piece → Bool
is_delivered (Gap n) = false
is_delivered (Delivered frame) = true

-- how many frames of a line are delivered in all
unfoldable pub frames_delivered : FrameShape → List Bool → ℕ
frames_delivered s line = count_by is_delivered (track s line)
