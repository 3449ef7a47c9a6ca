use Rattle.std.proofs.Common.{◌-◌, ◌≤◌, Bool, List, ◌++◌, length, take}
use Rattle.pdh_phases.specs.Keeping.{StandsFor}
use Rattle.pdh_align.proofs.search.push_held.Given as goal

-- the bits so far are taken
abbrev pub invariant-loop-done : goal.invariant-loop-done
invariant-loop-done g l = (l.done ≤ length l.held.bits) × ((before : List Bool) → StandsFor g.S.Shape.shape l.initial.phases before → StandsFor g.S.Shape.shape l.phases (before ++ take l.done l.held.bits))

abbrev pub decreases-loop-done : goal.decreases-loop-done
decreases-loop-done g l = length l.held.bits - l.done
