use Rattle.std.proofs.Common.{◌≡◌, ◌-◌, ◌≤◌, length, take}
use Rattle.pdh_g706.proofs.TakeLaws.{Takes}
use Rattle.pdh_g706.proofs.align.E1Align.take.Given as goal

-- so many bits were taken
abbrev pub invariant-loop-done : goal.invariant-loop-done
invariant-loop-done g l = record {
  within : l.done ≤ length l.bits.bits;
  taken : Takes g.W.Watch.saw l.fn.self l.self (take l.done l.bits.bits) (g.D.Drain.outputs l.fn.drain) (g.D.Drain.outputs l.drain) l.fn.watch l.watch;
  unfailed : g.D.Drain.drain_faults l.drain ≡ g.D.Drain.drain_faults l.fn.drain;
  drained : g.D.Drain.drained l.fn.drain l.drain;
}

abbrev pub decreases-loop-done : goal.decreases-loop-done
decreases-loop-done g l = length l.bits.bits - l.done
