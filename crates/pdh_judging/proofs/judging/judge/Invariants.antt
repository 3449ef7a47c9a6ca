use Rattle.std.proofs.Common.{◌≤◌, ◌-◌, length, take}
use Rattle.pdh_align.specs.Aligning.{StandsFor}
use Rattle.pdh_judging.specs.Judged.{Judges}
use Rattle.pdh_judging.proofs.judging.judge.Given as goal

-- the bits so far were judged
abbrev pub invariant-loop-done : goal.invariant-loop-done
invariant-loop-done g l = record {
  within : l.done ≤ length l.line.bits;
  stands : StandsFor g.S.Shape.shape l.aligner (take l.done l.line.bits);
  judges : Judges g.S.Shape.shape l.judged (take l.done l.line.bits);
}

abbrev pub decreases-loop-done : goal.decreases-loop-done
decreases-loop-done g l = length l.line.bits - l.done
