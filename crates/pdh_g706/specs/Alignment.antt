-- An alignment, by the frames that have come since its position, counted from 0: its loss, its multiframes and the blocks
-- that are judged in it (G.706, 4.1.1, 4.2 and 4.3).
use Rattle.std.specs.Prelude.{ℕ, suc, ◌+◌, ◌-◌, ◌*◌, ◌/◌, ◌%◌, Bool, true, false, not, nat_lt, nat_le, ◌&&◌, ◌||◌, ◌==◌, if◌then◌else◌, List, [], ◌∷◌, length, take, drop, flat_map, count_by}
use Rattle.std.specs.List.{range_with_len, slice_index_or}
use Rattle.pdh_bits.specs.Bits.{number_of}
use Rattle.pdh_e1.specs.Crc4.{crc4, cleared}
use Rattle.pdh_line.specs.Least.{least_below}
use Rattle.pdh_g706.specs.Frames.{bit_of, stands_at, has_signal}

-- frame k
abbrev pub frame : List (List Bool) → ℕ → List Bool
frame frames k = slice_index_or frames k []

-- ---- the loss of basic alignment

-- the last frame has an even number, and in it and in the frames two and four before it the alignment signal is wrong
unfoldable pub loses : List (List Bool) → Bool
loses frames =
    nat_le 5 (length frames) && (length frames % 2 == 1) && not (has_signal (frame frames (length frames - 5)))
    && not (has_signal (frame frames (length frames - 3))) && not (has_signal (frame frames (length frames - 1)))

-- ---- multiframe alignment

-- the multiframe alignment signal 001011
abbrev pub multiframe_signal : List Bool
multiframe_signal = false ∷ false ∷ true ∷ false ∷ true ∷ true ∷ []

-- it stands in the first bits of frames k+1, k+3 and so on
unfoldable pub has_multi : List (List Bool) → ℕ → Bool
has_multi frames k = stands_at multiframe_signal (λ i. bit_of (frame frames (k + 2 * i + 1)) 0)

-- the least frame before frame k by a multiple of 16 at which the signal stands, or k where it stands at none
unfoldable pub earlier : List (List Bool) → ℕ → ℕ
earlier frames k = least_below k (λ j. ((k - j) % 16 == 0) && has_multi frames j)

-- with the last of these frames, of which there are 64 at most, a signal ends at an even frame, and an earlier one stands a
-- multiple of 16 frames before it
unfoldable pub reaches : List (List Bool) → Bool
reaches frames =
    let k = length frames - 12 in
    nat_le 12 (length frames) && nat_le (length frames) 64 && (k % 2 == 0) && has_multi frames k && nat_lt (earlier frames k) k

-- the first frame with which multiframe alignment is reached, or the number of frames where it isn't
unfoldable pub reach : List (List Bool) → ℕ
reach frames = least_below (length frames) (λ k. reaches (take (suc k) frames))

abbrev pub is_reached : List (List Bool) → Bool
is_reached frames = nat_lt (reach frames) (length frames)

-- the first frame of the first multiframe
unfoldable pub begin : List (List Bool) → ℕ
begin frames = earlier frames (reach frames - 11)

-- how many frames have come since the multiframes began
abbrev pub framed : List (List Bool) → ℕ
framed frames = length frames - begin frames

-- how many multiframes are whole
unfoldable pub multiframes : List (List Bool) → ℕ
multiframes frames = (if is_reached frames then framed frames / 16 else 0)

-- their payload: all bits of their frames but the first eight of each
unfoldable pub payload : List (List Bool) → List Bool
payload frames = flat_map (drop 8) (take (16 * multiframes frames) (drop (begin frames) frames))

-- ---- blocks

-- the bits of the eight frames from frame k on
abbrev pub eight : List (List Bool) → ℕ → List Bool
eight frames k = flat_map (λ (bits : List Bool). bits) (take 8 (drop k frames))

-- the number that the C bits of a sub-multiframe write, C1 first
abbrev pub sent_check : List Bool → ℕ
sent_check bits = number_of (bit_of bits 0 ∷ bit_of bits 512 ∷ bit_of bits 1024 ∷ bit_of bits 1536 ∷ [])

-- the C bits after the sub-multiframe that begins with frame k aren't its word
unfoldable pub errs : List (List Bool) → ℕ → Bool
errs frames k = not (sent_check (eight frames (k + 8)) == crc4 (cleared (eight frames k)))

-- sub-multiframe b, counted from 0 at the first multiframe, is errored
unfoldable pub is_errored : List (List Bool) → ℕ → Bool
is_errored frames b = errs frames (begin frames + 8 * b)

-- how many sub-multiframes are judged: those after which one more is whole
unfoldable pub judged : List (List Bool) → ℕ
judged frames = (if is_reached frames then framed frames / 8 - 1 else 0)

-- so many judged sub-multiframes from this one on are errored
abbrev pub errored_in : List (List Bool) → ℕ → ℕ → ℕ
errored_in frames from count = count_by (is_errored frames) (range_with_len from count)

-- with the last frame a group of 1000 judged sub-multiframes ends, of which 915 or more are errored
unfoldable pub is_false : List (List Bool) → Bool
is_false frames =
    (framed frames % 8 == 0) && nat_lt 0 (judged frames) && (judged frames % 1000 == 0) && nat_le 915 (errored_in frames (judged frames - 1000) 1000)

-- ---- the end

-- the alignment ends with the last frame: basic alignment is lost, or multiframe alignment isn't reached within 64 frames,
-- or the alignment is false
unfoldable pub ends : List (List Bool) → Bool
ends frames = loses frames || ((length frames == 64) && not (is_reached frames)) || is_false frames

-- the first frame with which it ends, or the number of frames where it doesn't
unfoldable pub end_of : List (List Bool) → ℕ
end_of frames = least_below (length frames) (λ k. ends (take (suc k) frames))

abbrev pub is_ended : List (List Bool) → Bool
is_ended frames = nat_lt (end_of frames) (length frames)

-- the frames up to that one
abbrev pub up_to_end : List (List Bool) → List (List Bool)
up_to_end frames = take (suc (end_of frames)) frames

-- the frames that count: a frame with which basic alignment is lost doesn't
unfoldable pub kept : List (List Bool) → List (List Bool)
kept frames = (if loses (up_to_end frames) then take (end_of frames) frames else up_to_end frames)

-- at which bit of the alignment the next search begins: the first one of the frame with which basic alignment is lost, or
-- the second one of the frame with which the alignment ends otherwise
unfoldable pub resumes : List (List Bool) → ℕ
resumes frames = (if loses (up_to_end frames) then 256 * end_of frames else 256 * end_of frames + 1)
