use Rattle.std.proofs.Common.{◌≡◌, ◌≤◌, ◌++◌, slice_index}
use Rattle.pdh_rows.specs.Rows.{node_frames}
use Rattle.pdh_rows.specs.Stored.{rows_of}
use Rattle.pdh_clock.specs.Stored.{node_path}
use Rattle.pdh_clock.specs.Runs.{text_from}
use Rattle.pdh_clock.proofs.WrittenRows.{longest_text}
use Rattle.pdh_clock.proofs.writing.push_node.Given as goal

abbrev pub invariant-loop-row : goal.invariant-loop-row
invariant-loop-row l = record {
  tribs : l.run.tribs ≡ l.node.table.tribs;
  before : l.run.frames ≤ slice_index l.node.table.firsts.items l.row;
  whole : text_from l.node l.text.items l.run l.row ≡ l.fn.text.items ++ longest_text (node_path l.node) (node_frames (rows_of l.node.table));
}
