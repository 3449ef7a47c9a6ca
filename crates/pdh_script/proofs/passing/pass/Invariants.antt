use Rattle.std.proofs.Common.{◌≡◌, ◌≤◌, ◌-◌, Ok}
use Rattle.pdh_script.specs.Applying.{Passes, PassesSo}
use Rattle.pdh_script.specs.Stored.{becomes}
use Rattle.pdh_script.proofs.passing.pass.Given as goal

-- the bits so far passed
abbrev pub invariant-loop-passed : goal.invariant-loop-passed
invariant-loop-passed g l = record {
  within : l.passed ≤ l.bits;
  capacity : l.buffer.capacity ≡ l.fn.buffer.capacity;
  passes : PassesSo {T = Unit {0}} g.P.Feed g.P.Drain g.P.Port.kept (Passes (becomes l.effect) l.passed) (becomes l.effect) l.bits l.fn.port l.port (Ok tt);
}

abbrev pub decreases-loop-passed : goal.decreases-loop-passed
decreases-loop-passed g l = l.bits - l.passed
