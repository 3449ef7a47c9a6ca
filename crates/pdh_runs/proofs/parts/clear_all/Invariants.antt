use Rattle.std.proofs.Common.{◌≡◌, ◌++◌, take, drop}
use Rattle.pdh_runs.specs.Taking.{emptied}
use Rattle.pdh_runs.proofs.parts.clear_all.Given as goal

-- those so far, and the others as they were
abbrev pub invariant-loop-index : goal.invariant-loop-index
invariant-loop-index l = l.lists ≡ take l.index (emptied l.initial.lists) ++ drop l.index l.initial.lists
