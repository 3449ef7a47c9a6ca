use Rattle.std.proofs.Common.{◌≡◌, ◌≤◌, ◌-◌, [], length, take}
use Rattle.std.specs.Prelude.{fold}
use Rattle.pdh_line.specs.Tracking.{track}
use Rattle.pdh_align.specs.Aligning.{StandsFor}
use Rattle.pdh_delivered.specs.Deliveries.{deliveries, last_of}
use Rattle.pdh_delivered.proofs.frames.each_frame.Given as goal

-- the frames of the bits so far were shown
abbrev pub invariant-loop-done : goal.invariant-loop-done
invariant-loop-done g l = record {
  within : l.done ≤ length l.line.bits;
  stands : StandsFor g.S.Shape.shape l.aligner (take l.done l.line.bits);
  shown : l.visitor ≡ fold g.V.Visitor.shown l.fn.visitor (deliveries g.S.Shape.shape (take l.done l.line.bits));
  last : l.recent.last.bits ≡ last_of [] (track g.S.Shape.shape (take l.done l.line.bits));
}

abbrev pub decreases-loop-done : goal.decreases-loop-done
decreases-loop-done g l = length l.line.bits - l.done
