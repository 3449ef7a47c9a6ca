use Rattle.std.proofs.Common.{◌≡◌, ◌≤◌, ◌-◌, take, drop}
use Rattle.pdh_rx.specs.Meaning.{TakesBits}
use Rattle.pdh_desync.specs.FarNode.{SmoothStands, far_meaning, KeepsPlace}
use Rattle.pdh_desync.proofs.unwatched.Unwatched.take.Given as goal

-- the bits so far were taken
abbrev pub invariant-loop-done : goal.invariant-loop-done
invariant-loop-done g l = record {
  within : l.done ≤ l.count;
  taken : TakesBits (far_meaning g.S.Shape.shape l.fn.self) (take l.done (drop l.from l.bits.bits)) (SmoothStands g.S.Shape.shape l.fn.self) (SmoothStands g.S.Shape.shape l.self) (g.D.Drain.outputs l.fn.drain) (g.D.Drain.outputs l.drain);
  same : KeepsPlace l.fn.self l.self;
  unfailed : g.D.Drain.drain_faults l.drain ≡ g.D.Drain.drain_faults l.fn.drain;
  drained : g.D.Drain.drained l.fn.drain l.drain;
}

abbrev pub decreases-loop-done : goal.decreases-loop-done
decreases-loop-done g l = l.count - l.done
