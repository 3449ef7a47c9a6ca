use Rattle.std.proofs.Common.{◌≤◌, ◌-◌, Bool, List, ◌++◌, take, drop}
use Rattle.pdh_phases.specs.Keeping.{StandsFor}
use Rattle.pdh_phases.proofs.phases.Phases.push_all.Given as goal

-- the bits so far are taken
abbrev pub invariant-loop-done : goal.invariant-loop-done
invariant-loop-done g l =
    (l.done ≤ l.count) × ((before : List Bool) → StandsFor g.S.Shape.shape l.initial.self before → StandsFor g.S.Shape.shape l.self (before ++ take l.done (drop l.from l.bits.bits)))

abbrev pub decreases-loop-done : goal.decreases-loop-done
decreases-loop-done g l = l.count - l.done
