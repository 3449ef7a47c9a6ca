use Rattle.std.proofs.Common.{length}
use Rattle.pdh_script.proofs.BitsPut.{Adding}
use Rattle.pdh_script.proofs.rows_left.RowsLeft.put_added.Given as goal

-- what the rows so far add was put
abbrev pub invariant-loop-bytes : goal.invariant-loop-bytes
invariant-loop-bytes g l = Adding g.D.Drain l.place l.fn.self l.self l.fn.drain l.drain

abbrev pub decreases-loop-bytes : goal.decreases-loop-bytes
decreases-loop-bytes g l = length l.self
