use Rattle.std.proofs.Common.{◌≤◌, ◌-◌, length, take}
use Rattle.pdh_e1_judging.specs.Judging.{JudgingStands}
use Rattle.pdh_e1_judging.proofs.judge.judge_e1.Given as goal

-- so many bits were taken
abbrev pub invariant-loop-done : goal.invariant-loop-done
invariant-loop-done l = record {
  within : l.done ≤ length l.line.bits;
  stands : JudgingStands l.judging.align l.judging.came l.judging.judged (take l.done l.line.bits);
}

abbrev pub decreases-loop-done : goal.decreases-loop-done
decreases-loop-done l = length l.line.bits - l.done
