use Rattle.pdh_runs.proofs.RunLaws.{RunsBefore}
use Rattle.pdh_runs.proofs.run.runs.Given as goal

-- those of the slots so far
abbrev pub invariant-loop-slot : goal.invariant-loop-slot
invariant-loop-slot g l = RunsBefore g.S.Shape.shape l.slot l.runs.items l.run
