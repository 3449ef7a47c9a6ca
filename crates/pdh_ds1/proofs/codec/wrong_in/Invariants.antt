use Rattle.std.proofs.Common.{◌+◌}
use Rattle.pdh_framed.specs.RightFrames.{AreRight}
use Rattle.pdh_ds1.specs.Packing.{frame_right}
use Rattle.pdh_ds1.proofs.codec.wrong_in.Given as goal

-- the frames so far are right
abbrev pub invariant-loop-place : goal.invariant-loop-place
invariant-loop-place g l = AreRight (frame_right g.P.InSuperframe.f_bits g.P.InSuperframe.PLAN.frames l.line.bits) (l.first + l.place)
