use Rattle.std.proofs.Common.{◌≡◌, ◌++◌, true, false, map, get_or}
use Rattle.pdh_packed.specs.Words.{bounded}
use Rattle.pdh_shape.specs.Tributary.{reads_from}
use Rattle.pdh_runs.proofs.Counts.{picked}
use Rattle.pdh_runs.proofs.layout.Layout.append_trib.Given as goal

-- those of the slots so far
abbrev pub invariant-loop-slot : goal.invariant-loop-slot
invariant-loop-slot g l =
    l.into ≡ bounded l.initial.into.capacity (l.initial.into.bits ++ map (λ slot. get_or l.frame.bits slot false) (picked (λ slot. reads_from l.trib true (g.S.Shape.shape.role slot)) l.slot))
