use Rattle.std.proofs.Common.{◌≡◌, ◌≤◌, ◌-◌, Bool, List, length, take}
use Rattle.pdh_events.specs.Chain.{bits_events}
use Rattle.pdh_rx.specs.Meaning.{TakesBits}
use Rattle.pdh_rx.proofs.giving.take_watched.Given as goal

-- so many bits were taken, and their events seen
abbrev pub invariant-loop-done : goal.invariant-loop-done
invariant-loop-done g l = record {
  within : l.done ≤ length l.bits.bits;
  taken : TakesBits (g.R.Rx.meaning l.fn.receiver) (take l.done l.bits.bits) (g.R.Rx.stands l.fn.receiver) (g.R.Rx.stands l.receiver) (g.D.Drain.outputs l.fn.drain) (g.D.Drain.outputs l.drain);
  seen : (line : List Bool) → g.R.Rx.stands l.fn.receiver line → g.W.Watch.saw l.fn.watch (bits_events (g.R.Rx.meaning l.fn.receiver).notes line (take l.done l.bits.bits)) l.watch;
  same : g.R.Rx.meaning l.receiver ≡ g.R.Rx.meaning l.fn.receiver;
  unfailed : g.D.Drain.drain_faults l.drain ≡ g.D.Drain.drain_faults l.fn.drain;
  drained : g.D.Drain.drained l.fn.drain l.drain;
}

abbrev pub decreases-loop-done : goal.decreases-loop-done
decreases-loop-done g l = length l.bits.bits - l.done
