use Rattle.std.proofs.Common.{◌≡◌, ◌<◌, ℕ, false}
use Rattle.pdh_shape.specs.Tributary.{is_just}
use Rattle.pdh_runs.proofs.tables.just.Given as goal

-- it is none of the slots so far
abbrev pub invariant-loop-slot : goal.invariant-loop-slot
invariant-loop-slot g l = (t : ℕ) → t < l.slot → is_just l.trib (g.S.Shape.shape.role t) ≡ false
