use Rattle.std.proofs.Common.{◌≡◌, ◌-◌, ◌≤◌, length, take}
use Rattle.pdh_ds1.specs.Superframe.{in_superframe}
use Rattle.pdh_ds1.specs.Receiving.{ds1_far}
use Rattle.pdh_framed.specs.Taking.{Takes}
use Rattle.pdh_ds1.specs.View.{DeframerStands}
use Rattle.pdh_ds1.proofs.deframer.Deframer.take.Given as goal

-- so many bits were taken
abbrev pub invariant-loop-done : goal.invariant-loop-done
invariant-loop-done g l = record {
  within : l.done ≤ length l.bits.bits;
  taken : Takes (ds1_far (in_superframe g.P.InSuperframe.f_bits g.P.InSuperframe.PLAN))
      (DeframerStands g.P.InSuperframe.f_bits g.P.InSuperframe.PLAN l.fn.self)
      (DeframerStands g.P.InSuperframe.f_bits g.P.InSuperframe.PLAN l.self)
      (take l.done l.bits.bits) (g.D.Drain.outputs l.fn.drain) (g.D.Drain.outputs l.drain);
  unfailed : g.D.Drain.drain_faults l.drain ≡ g.D.Drain.drain_faults l.fn.drain;
  drained : g.D.Drain.drained l.fn.drain l.drain;
}

abbrev pub decreases-loop-done : goal.decreases-loop-done
decreases-loop-done g l = length l.bits.bits - l.done
