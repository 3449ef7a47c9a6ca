use Rattle.std.proofs.Common.{length}
use Rattle.pdh_clock.proofs.Growing.{IsReading}
use Rattle.pdh_clock.proofs.reading.read_rows.Given as goal

abbrev pub invariant-loop-rest : goal.invariant-loop-rest
invariant-loop-rest l = IsReading l.levels l.tree l.version l.number l.rest l.text

abbrev pub decreases-loop-rest : goal.decreases-loop-rest
decreases-loop-rest l = length l.rest
