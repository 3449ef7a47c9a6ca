use Rattle.std.specs.Prelude.{slice_index}
use Rattle.pdh_rows.specs.Rows.{node_counts}
use Rattle.pdh_rows.specs.Bounds.{gains, losses}
use Rattle.pdh_rows.specs.Stored.{rows_of}
use Rattle.pdh_rows.proofs.Rising.{IsRising}
use Rattle.pdh_rows.proofs.tolerance.first_end.Given as goal

abbrev pub invariant-loop-number : goal.invariant-loop-number
invariant-loop-number l =
    let counts = node_counts (rows_of l.table) l.trib in
    IsRising (gains l.bound l.low counts) (losses l.bound l.low counts) (slice_index l.table.firsts.items l.number) l.rise
