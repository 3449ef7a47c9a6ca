-- The tolerance of a multiplexer with elastic stores: how many bits of a tributary may arrive over a run of frames.
-- The rule and its allowance are this project's own; that a frame carries one bit more or less of a tributary, by
-- positive justification, is that of ITU-T G.742, 5.
use Rattle.std.specs.Prelude.{◌≡◌, ◌<◌, ◌≤◌, ℕ, zero, suc, ◌+◌, ◌-◌, ◌*◌, nat_le, if◌then◌else◌, sum_by}
use Rattle.std.specs.List.{range_with_len}
use Rattle.pdh_shape.specs.Frame.{FrameShape}
use Rattle.pdh_shape.specs.OwnNumbers.{lead, threshold, store_size, allowance}
use Rattle.pdh_line.specs.Progress.{arrived}
use Rattle.pdh_line.specs.Sending.{sent}

-- how many bits arrive in a run of so many frames, from this first frame on
abbrev pub arrived_over : (ℕ → ℕ) → ℕ → ℕ → ℕ
arrived_over counts first run = sum_by counts (range_with_len first run)

-- a tributary is within the tolerance over so many frames
pub record IsWithin (s : FrameShape) (counts : ℕ → ℕ) (frames : ℕ) : Type 0 where
  -- in each run of them arrives at least what it carries where all its frames are justified, less the allowance
  pub least : (first run : ℕ) → first + run ≤ frames → s.low * run ≤ arrived_over counts first run + allowance
  -- and at most what it carries where none is, with the allowance
  pub most : (first run : ℕ) → first + run ≤ frames → arrived_over counts first run ≤ suc s.low * run + allowance

-- ---- what a store holds within the tolerance

-- at the start of a frame at least, and at most
abbrev pub least_at_start : ℕ
least_at_start = threshold - (allowance + 1)

abbrev pub most_at_start : ℕ
most_at_start = threshold + allowance

-- at every step after the leads at least, and at most
abbrev pub least_inside : ℕ
least_inside = threshold - (2 * allowance + 4)

abbrev pub most_inside : ℕ
most_inside = threshold + (2 * allowance + 5)

-- ---- frames that surely meet no event

-- Between these numbers the fill of a store at a frame's start is away from both its ends by more than the frame's slots, which read a
-- tributary unevenly, run ahead of its arrivals or behind them.
abbrev pub least_fill : ℕ
least_fill = 4

abbrev pub most_fill : ℕ
most_fill = store_size - 7

-- In a frame with this count a store that holds so many bits at its start stays away from both its ends: it is so at the frame's start,
-- and at its end, whether the frame carries an additional bit or not.
pub record KeepsInside (low count fill : ℕ) : Type 0 where
  pub least_before : least_fill ≤ fill
  pub most_before : fill ≤ most_fill
  pub least_after : low + least_fill ≤ fill + count
  pub most_after : fill + count ≤ suc low + most_fill

-- its fill at the frame's end
abbrev pub fill_next : ℕ → ℕ → ℕ → ℕ
fill_next low count fill = fill + count - (if nat_le threshold fill then suc low else low)

-- and so many frames behind the start of frame `first`, where it held so many bits
unfoldable pub fill_from : ℕ → (ℕ → ℕ) → ℕ → ℕ → ℕ → ℕ
fill_from low counts first fill zero = fill
fill_from low counts first fill (suc k) = fill_next low (counts (first + k)) (fill_from low counts first fill k)

-- it stays away from both its ends in so many frames from frame `first` on
abbrev pub StaysInside : ℕ → (ℕ → ℕ) → ℕ → ℕ → ℕ → Type 0
StaysInside low counts first fill frames = (k : ℕ) → k < frames → KeepsInside low (counts (first + k)) (fill_from low counts first fill k)

-- a store holds so many bits at the start of frame n: what came and isn't sent
abbrev pub HoldsAt : FrameShape → (ℕ → ℕ) → ℕ → ℕ → Type 0
HoldsAt s counts n fill = sent s counts n + fill ≡ lead + arrived counts n

-- a frame brings as many bits of a tributary as it carries, with or without an additional one
pub record IsInStep (low count : ℕ) : Type 0 where
  pub least : low ≤ count
  pub most : count ≤ suc low
