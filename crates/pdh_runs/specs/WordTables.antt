-- Where the words of a frame's payload stand.
use Rattle.std.specs.Prelude.{◌≡◌, ◌<◌, ◌≤◌, ℕ, suc, ◌+◌, ◌-◌, ◌*◌, ◌==◌, if◌then◌else◌, nat_lt, List, length}
use Rattle.std.specs.List.{slice_index_or}
use Rattle.pdh_shape.specs.Frame.{FrameShape}
use Rattle.pdh_runs.specs.declared.words.WordAt.{WordAt}
use Rattle.pdh_runs.specs.Columns.{payload_slots}

-- how many bits of the payload of so many tributaries a word has: eight of each of seven, and else 64
abbrev pub word_size : ℕ → ℕ
word_size tribs = (if tribs == 7 then 56 else 64)

-- some bits of a word stand in its first part, and not more than it has
abbrev pub IsParted : WordAt → Type 0
IsParted at = (0 < at.first) × (at.first ≤ 64)

-- the slot in which bit k of a word stands
abbrev pub slot_in : WordAt → ℕ → ℕ
slot_in at k = (if nat_lt k at.first then at.slot + k else at.next + (k - at.first))

-- the bits of the payload from this number on, so many as a word has, or as are left, stand there
pub record IsWordAt (s : FrameShape) (number size : ℕ) (at : WordAt) : Type 0 where
  pub parted : IsParted at
  pub each : (k : ℕ) → k < size → number + k < s.tribs * suc s.low → slice_index_or (payload_slots s) (number + k) 0 ≡ slot_in at k

-- the words of the payload of a frame stand there, one behind the other, to its end
pub record AreWords (s : FrameShape) (words : List WordAt) : Type 0 where
  pub all : s.tribs * suc s.low ≤ word_size s.tribs * length words
  pub each : (index : ℕ) (at : WordAt) → index < length words → IsWordAt s (word_size s.tribs * index) (word_size s.tribs) (slice_index_or words index at)
