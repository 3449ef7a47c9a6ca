use Rattle.std.proofs.Common.{ℕ, ◌<◌}
use Rattle.pdh_making.specs.MuxSteps.{IsLong}
use Rattle.pdh_making.proofs.muxing.frames.Given as goal

-- each leaf before this one is long enough
abbrev pub invariant-loop-leaf : goal.invariant-loop-leaf
invariant-loop-leaf l = (k : ℕ) → k < l.leaf → IsLong l.fn.chain l.clock.rows l.sizes k
