use Rattle.std.proofs.Common.{◌≡◌, ◌-◌, ◌≤◌, length, take}
use Rattle.pdh_ds1.specs.Packing.{packed_superframes}
use Rattle.pdh_framed.specs.Taking.{Takes}
use Rattle.pdh_ds1.specs.View.{FramerStands}
use Rattle.pdh_ds1.proofs.framer.Framer.take.Given as goal

-- so many bits were taken
abbrev pub invariant-loop-done : goal.invariant-loop-done
invariant-loop-done g l = record {
  within : l.done ≤ length l.bits.bits;
  taken : Takes (packed_superframes g.P.InSuperframe.f_bits g.P.InSuperframe.PLAN.frames)
      (FramerStands g.P.InSuperframe.f_bits g.P.InSuperframe.PLAN l.fn.self)
      (FramerStands g.P.InSuperframe.f_bits g.P.InSuperframe.PLAN l.self)
      (take l.done l.bits.bits) (g.D.Drain.outputs l.fn.drain) (g.D.Drain.outputs l.drain);
  unfailed : g.D.Drain.drain_faults l.drain ≡ g.D.Drain.drain_faults l.fn.drain;
  drained : g.D.Drain.drained l.fn.drain l.drain;
}

abbrev pub decreases-loop-done : goal.decreases-loop-done
decreases-loop-done g l = length l.bits.bits - l.done
