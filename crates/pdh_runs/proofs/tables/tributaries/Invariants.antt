use Rattle.pdh_runs.specs.Tables.{AreTributaries}
use Rattle.pdh_runs.proofs.tables.tributaries.Given as goal

-- those so far
abbrev pub invariant-loop-trib : goal.invariant-loop-trib
invariant-loop-trib g l = AreTributaries g.S.Shape.shape l.trib l.tributaries.items
