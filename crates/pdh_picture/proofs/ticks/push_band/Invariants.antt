use Rattle.std.proofs.Common.{◌≤◌, ◌-◌}
use Rattle.pdh_picture.proofs.ticks.push_band.Given as goal

abbrev pub invariant-loop-run : goal.invariant-loop-run
invariant-loop-run l = l.from ≤ 430

abbrev pub decreases-loop-run : goal.decreases-loop-run
decreases-loop-run l = 430 - l.from
