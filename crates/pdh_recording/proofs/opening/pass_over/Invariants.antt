-- so many bytes were passed over
use Rattle.std.proofs.Common.{◌-◌, ◌≤◌}
use Rattle.pdh_recording.specs.Opening.{Passes}
use Rattle.pdh_recording.proofs.opening.pass_over.Given as goal

abbrev pub invariant-loop-passed : goal.invariant-loop-passed
invariant-loop-passed g l = record {
  within : l.passed ≤ l.bytes;
  passes : Passes (g.R.Read.remaining l.initial.reader) (g.R.Read.remaining l.reader) l.passed;
}

abbrev pub decreases-loop-passed : goal.decreases-loop-passed
decreases-loop-passed g l = l.bytes - l.passed
