-- How many frames each node begins while the top makes a number of frames.
use Rattle.std.specs.Prelude.{ℕ, ◌*◌, ◌<◌, ◌≤◌, nat_lt, List, [], length, find, Option, option_map}
use Rattle.std.specs.List.{slice_index_or}
use Rattle.pdh_shape.specs.declared.place.Level.{Level}
use Rattle.pdh_line.specs.Paths.{steps_of}
use Rattle.pdh_line.specs.Progress.{taken_by}
use Rattle.pdh_line.specs.Nodes.{bits_at, begun_at, entered_at, top_len as top_len_of}
use Rattle.pdh_levels.specs.Levels.{level_numbers, numbers_of, nodes_in}
use Rattle.pdh_clock.specs.declared.beginning.Short.{Short}
use Rattle.pdh_clock.specs.Row.{Row}
use Rattle.pdh_clock.specs.Contents.{Contents, counts, frame_count}

-- how many bits of tributary j a node of this level has taken that made x bits of its line
abbrev pub taken : Level → ℕ → (ℕ → ℕ) → ℕ → ℕ
taken level = taken_by (level_numbers level)

-- how many bits the node makes, and how many frames it begins, to which the steps lead from the node at `from`, which is of
-- the first of the levels and makes x bits
abbrev pub bits_from : List Row → List Level → List ℕ → ℕ → List ℕ → ℕ
bits_from rows levels = bits_at (numbers_of levels) (counts rows)

abbrev pub begun_from : List Row → List Level → List ℕ → ℕ → List ℕ → ℕ
begun_from rows levels = begun_at (numbers_of levels) (counts rows)

-- the bits of a frame of the top
abbrev pub top_len : List Level → ℕ
top_len levels = top_len_of (numbers_of levels)

-- how many frames the node at a path begins while the top makes that many
unfoldable pub frames_begun : Contents → ℕ → List ℕ → ℕ
frames_begun schedule top_frames path = begun_from schedule.rows schedule.levels [] (top_frames * top_len schedule.levels) path

-- how many bits it makes
abbrev pub bits_made : Contents → ℕ → List ℕ → ℕ
bits_made schedule top_frames path = bits_from schedule.rows schedule.levels [] (top_frames * top_len schedule.levels) path

-- how many bits of a leaf, counted from 0, enter: those of the frames that the leaf's node begins
abbrev pub bits_entered : Contents → ℕ → ℕ → ℕ
bits_entered schedule top_frames leaf = entered_at (numbers_of schedule.levels) (counts schedule.rows) [] (top_frames * top_len schedule.levels) leaf

-- no node before that place has fewer frames than it begins
abbrev pub NoneShort : Contents → ℕ → ℕ → Type 0
NoneShort schedule top_frames place = (k : ℕ) → k < place → k < length (nodes_in schedule.levels)
    → frames_begun schedule top_frames (slice_index_or (nodes_in schedule.levels) k [])
    ≤ frame_count schedule.rows (slice_index_or (nodes_in schedule.levels) k [])

-- a node with fewer frames than it begins
pub record Shortage : Type 0 where
  pub path : List ℕ
  pub have : ℕ
  pub need : ℕ

-- the same, as the code says it
abbrev pub shortage_of : Short → Shortage
shortage_of short = record { path = steps_of short.node; have = short.have; need = short.need }

-- the first such node in the order of nodes, where there is one
unfoldable pub shortage : Contents → ℕ → Option Shortage
shortage schedule top_frames =
    let have = λ (path : List ℕ). frame_count schedule.rows path in
    let need = λ (path : List ℕ). frames_begun schedule top_frames path in
    option_map (λ path. record { path = path; have = have path; need = need path })
    (find (λ path. nat_lt (have path) (need path)) (nodes_in schedule.levels))
