use Rattle.std.proofs.Common.{◌+◌, ◌-◌, ◌<◌, ◌≤◌, length}
use Rattle.std.specs.Prelude.{slice_index}
use Rattle.pdh_rows.specs.Inside.{FillsPassAll}
use Rattle.pdh_rows.specs.Rows.{node_counts}
use Rattle.pdh_rows.specs.Stored.{rows_of}
use Rattle.pdh_rows.proofs.inside.stays_inside.Given as goal

-- the frames so far keep the store inside, and leave it with one of these fills; the next one, if there is one, is of this row
abbrev pub invariant-loop-number : goal.invariant-loop-number
invariant-loop-number l = record {
  begun : l.first ≤ l.at;
  upto : l.at ≤ l.end;
  place : l.at < l.end → slice_index l.table.firsts.items l.number ≤ l.at;
  ends : l.at < l.end → l.number < length l.table.repeats.items → l.at ≤ slice_index l.table.firsts.items (l.number + 1);
  passed : FillsPassAll l.low (node_counts (rows_of l.table) l.trib) l.first (l.at - l.first) (record { least = l.fill; most = l.fill }) l.fills;
}
