-- A schedule as its callers see it, and the counts that it gives a node.
use Rattle.std.specs.Prelude.{◌≡◌, ℕ, ◌<◌, ◌≤◌, ◌==◌, ◌&&◌, Bool, true, false, List, [], ◌∷◌, All, IsSome, length, filter, slice_index}
use Rattle.std.specs.List.{flat_map, slice_index_or}
use Rattle.pdh_shape.specs.declared.place.Level.{Level}
use Rattle.pdh_rows.specs.Flows.{flow_count}
use Rattle.pdh_rows.specs.Rows.{frames_in}
use Rattle.pdh_clock.specs.Row.{Row}
use Rattle.pdh_levels.specs.Levels.{nodes_in, level_at, stores_at, len_at}

-- the levels of its chain, and the rows of its nodes in order
pub record Contents : Type 0 where
  pub levels : List Level
  pub rows : List Row

-- a row of a node of the levels: it is of some frames, and each store has a flow, which brings a frame no more than its bits
pub record IsRowOf (levels : List Level) (row : Row) : Type 0 where
  pub node : IsSome (level_at levels row.path)
  pub some_frames : 0 < row.repeat
  pub stores : length row.flows ≡ stores_at levels row.path
  pub most : All (λ flow. (n : ℕ) → flow_count flow n ≤ len_at levels row.path) row.flows

-- two paths are the same
abbrev pub same_path : List ℕ → List ℕ → Bool
same_path [] [] = true
same_path (a ∷ path) (b ∷ path') = a == b && same_path path path'
same_path _ _ = false

-- the rows of the node at a path
abbrev pub rows_at : List Row → List ℕ → List Row
rows_at rows path = filter (λ row. same_path row.path path) rows

-- the rows of each node in order of lines, and the nodes in order
abbrev pub by_nodes : List Level → List Row → List Row
by_nodes levels rows = flat_map (rows_at rows) (nodes_in levels)

-- the counts of each frame of a row
abbrev pub frames_of_row : Row → List (List ℕ)
frames_of_row row = frames_in (record { repeat = row.repeat; flows = row.flows })

-- those of each frame of the node at a path
unfoldable pub frames_of : List Row → List ℕ → List (List ℕ)
frames_of rows path = flat_map frames_of_row (rows_at rows path)

-- how many frames the node has
abbrev pub frame_count : List Row → List ℕ → ℕ
frame_count rows path = length (frames_of rows path)

-- how many bits of a tributary, numbered from 0, arrive in each frame
abbrev pub counts : List Row → List ℕ → ℕ → ℕ → ℕ
counts rows path trib frame = slice_index (slice_index_or (frames_of rows path) frame []) trib
