use Rattle.std.proofs.Common.{◌≡◌, ℕ, ◌<◌, None}
use Rattle.pdh_line.specs.Paths.{steps_of}
use Rattle.pdh_making.specs.Clock.{run_outside}
use Rattle.pdh_making.proofs.clock.outside_of.Given as goal

-- the tributaries before this one are within the tolerance
abbrev pub invariant-loop-index : goal.invariant-loop-index
invariant-loop-index l = (k : ℕ) → k < l.index → run_outside l.clock (steps_of l.node) k ≡ None
