-- The writing of a node's rows, run by run.
use Rattle.std.specs.Prelude.{ℕ, ◌==◌, if◌then◌else◌, List, [], ◌++◌, take, drop, replicate, slice_index}
use Rattle.std.specs.List.{flat_map}
use Rattle.pdh_rows.specs.Rows.{node_frames}
use Rattle.pdh_rows.specs.Stored.{rows_of}
use Rattle.pdh_rows.specs.declared.table.Table.{Table}
use Rattle.pdh_clock.specs.declared.tree.NodeRows.{NodeRows}
use Rattle.pdh_clock.specs.declared.writing.Run.{Run}
use Rattle.pdh_row_text.specs.Form.{counts_form}
use Rattle.pdh_clock.specs.Stored.{node_path}
use Rattle.pdh_clock.specs.Written.{longest_rows, row_line}

-- the counts of each frame of a run
abbrev pub run_counts : Run → List ℕ
run_counts run = take run.tribs run.first

-- the row that it is written as, if it has frames
abbrev pub run_text : List ℕ → Run → List ℕ
run_text path run = if run.frames == 0 then [] else row_line (counts_form path run.frames (run_counts run))

-- the whole text of a node, where so much is written, then the frames of the run come, and then the others
abbrev pub text_before : List ℕ → List ℕ → Run → List (List ℕ) → List ℕ
text_before path text run frames = text ++ flat_map row_line (longest_rows path (replicate run.frames (run_counts run) ++ frames))

-- the frames of a node from that one on
abbrev pub frames_from : Table → ℕ → List (List ℕ)
frames_from table frame = drop frame (node_frames (rows_of table))

-- the whole text, where the frames of the rows from that one on come behind those of the run
abbrev pub text_from : NodeRows → List ℕ → Run → ℕ → List ℕ
text_from node text run row = text_before (node_path node) text run (frames_from node.table (slice_index node.table.firsts.items row))
