use Rattle.std.proofs.Common.{length}
use Rattle.pdh_script.proofs.Growing.{IsReading}
use Rattle.pdh_script.proofs.reading.read_rows.Given as goal

abbrev pub invariant-loop-rest : goal.invariant-loop-rest
invariant-loop-rest l = IsReading l.bits l.number l.place l.rows.steps.items l.rows.added.items l.rest l.text

abbrev pub decreases-loop-rest : goal.decreases-loop-rest
decreases-loop-rest l = length l.rest
