use Rattle.std.proofs.Common.{◌≡◌, map}
use Rattle.pdh_runs.specs.Tables.{is_overhead}
use Rattle.pdh_runs.proofs.Counts.{picked}
use Rattle.pdh_runs.proofs.tables.overhead_roles.Given as goal

-- those of the slots so far
abbrev pub invariant-loop-slot : goal.invariant-loop-slot
invariant-loop-slot g l = l.list.items ≡ map g.S.Shape.shape.role (picked (is_overhead g.S.Shape.shape) l.slot)
