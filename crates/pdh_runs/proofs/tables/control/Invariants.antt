use Rattle.std.proofs.Common.{◌≡◌}
use Rattle.pdh_shape.specs.Tributary.{controls}
use Rattle.pdh_runs.proofs.Counts.{picked}
use Rattle.pdh_runs.proofs.tables.control.Given as goal

-- those of the slots so far
abbrev pub invariant-loop-slot : goal.invariant-loop-slot
invariant-loop-slot g l = l.control.items ≡ picked (λ t. controls l.trib (g.S.Shape.shape.role t)) l.slot
