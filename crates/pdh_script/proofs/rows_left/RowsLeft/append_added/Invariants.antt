use Rattle.std.proofs.Common.{length}
use Rattle.pdh_script.proofs.BitsAppended.{Appending}
use Rattle.pdh_script.proofs.rows_left.RowsLeft.append_added.Given as goal

-- what the rows so far add was appended
abbrev pub invariant-loop-bytes : goal.invariant-loop-bytes
invariant-loop-bytes l = Appending l.place l.fn.self l.self l.fn.into l.into

abbrev pub decreases-loop-bytes : goal.decreases-loop-bytes
decreases-loop-bytes l = length l.self
