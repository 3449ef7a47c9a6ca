use Rattle.std.proofs.Common.{ℕ, suc, ◌-◌}
use Rattle.std.specs.Prelude.{max}
use Rattle.pdh_cells.specs.Lanes.{Lanes}
use Rattle.pdh_cells.specs.Standing.{StandsFor}
use Rattle.pdh_cells.proofs.cells.Cells.widen_to.Given as goal

-- what is kept still stands for what came
abbrev pub invariant-loop-self : goal.invariant-loop-self
invariant-loop-self l = record { stands : (lanes : Lanes) (end : ℕ) → StandsFor l.fn.self lanes end → StandsFor l.self lanes (max end (suc l.last)) }

abbrev pub decreases-loop-self : goal.decreases-loop-self
decreases-loop-self l = l.shift - l.self.shift
