use Rattle.std.proofs.Common.{◌≡◌, ◌-◌, ◌*◌, ◌/◌, ◌≤◌, length}
use Rattle.pdh_framed.specs.RightFrames.{AreRight}
use Rattle.pdh_ds1.specs.Packing.{sent_word, frame_right}
use Rattle.pdh_ds1.proofs.codec.first_wrong.Given as goal

-- the superframes so far are right
abbrev pub invariant-loop-first : goal.invariant-loop-first
invariant-loop-first g l = record {
  right : AreRight (frame_right g.P.InSuperframe.f_bits g.P.InSuperframe.PLAN.frames l.line.bits) l.first;
  whole : g.P.InSuperframe.PLAN.frames * (l.first / g.P.InSuperframe.PLAN.frames) ≡ l.first;
  sends : l.sent ≡ sent_word g.P.InSuperframe.PLAN.frames l.line.bits (l.first / g.P.InSuperframe.PLAN.frames);
  within : l.first ≤ l.count;
  count : l.count ≡ length l.line.bits / 193;
  frames : l.frames ≡ g.P.InSuperframe.PLAN.frames;
}

abbrev pub decreases-loop-first : goal.decreases-loop-first
decreases-loop-first g l = l.count - l.first
