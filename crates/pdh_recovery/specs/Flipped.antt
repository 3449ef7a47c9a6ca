-- What flipped bits of a line can change in what its tributaries get.
use Rattle.std.specs.Prelude.{◌≡◌, ◌⊎◌, ◌<◌, ◌≤◌, ℕ, ◌+◌, ◌-◌, ◌*◌, ◌/◌, Bool, true, false, not, ◌&&◌, List, ◌∷◌, length, map, flat_map, filter, count_by}
use Rattle.std.specs.List.{range_with_len, slice_index_or}
use Rattle.pdh_shape.specs.Frame.{FrameShape, slots}
use Rattle.pdh_shape.specs.Tributary.{reads_from, controls, control_ones, carries_more, turned}
use Rattle.pdh_line.specs.Tracking.{frame_of, frames_in, track}
use Rattle.pdh_line.specs.Tracking.Piece.{Gap, Delivered}
use Rattle.pdh_line.specs.Receiving.{received}
use Rattle.pdh_line.specs.Sending.{HasStores}

-- two bits differ
abbrev pub differ : Bool → Bool → Bool
differ true b = not b
differ false b = b

-- the tracking of a line is one alignment from its first bit on, without a loss
pub record IsOneAlignment (s : FrameShape) (line : List Bool) : Type 0 where
  pub frames : List (List Bool)
  pub some : 0 < length frames
  pub pieces : track s line ≡ Gap 0 ∷ map Delivered frames

-- all control copies of tributary j are equal in a frame
abbrev pub AreCopiesEqual : FrameShape → ℕ → List Bool → Type 0
AreCopiesEqual s j frame = (control_ones s j frame ≡ 0) ⊎ (control_ones s j frame ≡ s.copies)

-- how many control copies of tributary j differ between two frames
abbrev pub wrong_copies : FrameShape → ℕ → List Bool → List Bool → ℕ
wrong_copies s j frame other = count_by (λ slot. controls j (s.role slot) && differ (slice_index_or frame slot false) (slice_index_or other slot false)) (slots s)

-- where a shape has copies, at most (COPIES-1)/2 of tributary j are wrong in each whole frame
abbrev pub AreFewWrong : FrameShape → ℕ → List Bool → List Bool → Type 0
AreFewWrong s j line sent =
    HasStores s → (k : ℕ) → k < frames_in s sent → wrong_copies s j (frame_of s line k) (frame_of s sent k) ≤ (s.copies - 1) / 2

-- the places in frame k of a line from which tributary j is read: its information slots, and its justifiable slot where the
-- frame carries an additional bit
abbrev pub places_in : FrameShape → ℕ → List Bool → ℕ → List ℕ
places_in s j line k = map (λ slot. k * s.len + slot) (filter (λ slot. reads_from j (carries_more s j (frame_of s line k)) (s.role slot)) (slots s))

-- and those in all whole frames
abbrev pub places : FrameShape → ℕ → List Bool → List ℕ
places s j line = flat_map (places_in s j line) (range_with_len 0 (frames_in s line))

-- what a tributary gets from these places of a line
abbrev pub read_at : FrameShape → ℕ → List Bool → List ℕ → List Bool
read_at s j line from = map (λ x. turned (s.inverted j) (slice_index_or line x false)) from

-- What a tributary gets of two lines are the bits at the same places of each, those of the sent one: so it gets as many, and
-- they differ only where the lines do.
pub record ReadsTheSame (s : FrameShape) (j : ℕ) (line sent : List Bool) : Type 0 where
  pub of_line : received s j line ≡ read_at s j line (places s j sent)
  pub of_sent : received s j sent ≡ read_at s j sent (places s j sent)
  pub same_length : length (received s j line) ≡ length (received s j sent)
