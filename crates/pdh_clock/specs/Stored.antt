-- The nodes of a chain as they are stored: in order, each with its rows.
use Rattle.std.specs.Prelude.{◌≡◌, ℕ, ◌<◌, ◌≤◌, ◌+◌, ◌*◌, ◌^◌, List, map, All}
use Rattle.std.specs.List.{flat_map, slice_index_or}
use Rattle.std.specs.Option.{option_map_or}
use Rattle.pdh_rows.specs.Rows.{NodeRow}
use Rattle.pdh_rows.specs.declared.flow.Flow.{Flow}
use Rattle.pdh_rows.specs.declared.flow.Says.{Says}
use Rattle.pdh_rows.specs.Flows.{flowed, each}
use Rattle.pdh_rows.specs.Stored.{IsTable, rows_of, row_frames}
use Rattle.pdh_shape.specs.OwnNumbers.{most_bytes}
use Rattle.pdh_shape.specs.declared.place.Level.{Level}
use Rattle.pdh_clock.specs.declared.tree.NodeRows.{NodeRows}
use Rattle.pdh_clock.specs.declared.tree.Tree.{Tree}
use Rattle.pdh_row_text.specs.Form.{Form}
use Rattle.pdh_clock.specs.Row.{Row, ratio_of, row_of}
use Rattle.pdh_levels.specs.Levels.{AreLevels, level_at, longest_frame, stores_at, nodes_in}
use Rattle.pdh_line.specs.Paths.{steps_of}
use Rattle.pdh_clock.specs.Contents.{Contents, IsRowOf}

-- a row of the node at a path, by the row as it is stored
abbrev pub at_path : List ℕ → NodeRow → Row
at_path path row = record { path = path; repeat = row.repeat; flows = row.flows }

-- the flow of a tributary of the node at a path at the nominal rates
abbrev pub ratio_at : List Level → List ℕ → Flow
ratio_at levels path = option_map_or ratio_of (level_at levels path) (each 0)

-- what a line means, whose node is of the levels
abbrev pub row_in : List Level → Form → Row
row_in levels form = row_of (ratio_at levels form.path) form

abbrev pub said_in : List Level → List ℕ → ℕ → Says → List ℕ → Row
said_in levels path repeat says numbers = row_in levels (record { path = path; repeat = repeat; says = says; numbers = numbers })

-- the path of a node, and its rows
abbrev pub node_path : NodeRows → List ℕ
node_path node = steps_of node.path

abbrev pub node_rows : NodeRows → List Row
node_rows node = map (at_path (node_path node)) (rows_of node.table)

-- the rows of all nodes
abbrev pub rows_in : Tree → List Row
rows_in tree = flat_map node_rows tree.nodes.items

-- the same, as a schedule's callers see it
abbrev pub contents_of : Tree → Contents
contents_of tree = record { levels = tree.levels.items; rows = rows_in tree }

-- the fewest bytes of a row of the node at a path: two for each number, and three for the path, a space and the repeat
abbrev pub row_bytes : List Level → List ℕ → ℕ
row_bytes levels path = 3 + 2 * stores_at levels path

-- no node has more frames than so many rows as a text has bytes
abbrev pub most_node_frames : ℕ
most_node_frames = 10 ^ 9 * most_bytes

-- a node with its rows
pub record IsNode (levels : List Level) (node : NodeRows) : Type 0 where
  pub stored : IsTable node.table
  pub ratio : node.table.ratio ≡ ratio_at levels (node_path node)
  pub tribs : node.table.tribs ≡ stores_at levels (node_path node)
  pub frames_few : row_frames (rows_of node.table) ≤ most_node_frames
  pub rows : All (IsRowOf levels) (node_rows node)

-- all nodes of the levels, in order
pub record IsTree (tree : Tree) : Type 0 where
  pub levels_are : AreLevels tree.levels.items
  pub paths : map node_path tree.nodes.items ≡ nodes_in tree.levels.items
  pub each : All (IsNode tree.levels.items) tree.nodes.items

-- a row that can be counted with: its frames, and the bits of each tributary, are no more than those of a text's longest row
pub record IsSmall (repeat : ℕ) (flows : List Flow) : Type 0 where
  pub repeat_is : repeat < 10 ^ 9
  pub bits_are : (trib : ℕ) → flowed (slice_index_or flows trib (each 0)) repeat ≤ 10 ^ 9 * longest_frame

abbrev pub IsSmallRow : Row → Type 0
IsSmallRow row = IsSmall row.repeat row.flows
