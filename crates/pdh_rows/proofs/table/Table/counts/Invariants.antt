use Rattle.std.proofs.Common.{◌≡◌, ◌<◌, ◌≤◌, ℕ, slice_index}
use Rattle.pdh_rows.specs.Rows.{node_counts}
use Rattle.pdh_rows.specs.Stored.{rows_of}
use Rattle.pdh_rows.proofs.table.Table.counts.Given as goal

abbrev pub invariant-loop-trib : goal.invariant-loop-trib
invariant-loop-trib l = record {
  read : (k : ℕ) → k < l.trib → slice_index l.into k ≡ node_counts (rows_of l.self) k l.frame;
  others : (k : ℕ) → l.trib ≤ k → slice_index l.into k ≡ slice_index l.fn.into k;
}
