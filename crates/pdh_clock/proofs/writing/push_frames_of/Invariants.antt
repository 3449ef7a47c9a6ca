use Rattle.std.proofs.Common.{◌≡◌, ◌≤◌}
use Rattle.pdh_clock.specs.Stored.{node_path}
use Rattle.pdh_clock.specs.Runs.{frames_from, text_before, text_from}
use Rattle.pdh_clock.proofs.writing.push_frames_of.Given as goal

abbrev pub invariant-loop-frame : goal.invariant-loop-frame
invariant-loop-frame l = record {
  tribs : l.run.tribs ≡ l.fn.run.tribs;
  before : l.run.frames ≤ l.frame;
  whole : text_before (node_path l.node) l.text.items l.run (frames_from l.table l.frame) ≡ text_from l.node l.fn.text.items l.fn.run l.row;
}
