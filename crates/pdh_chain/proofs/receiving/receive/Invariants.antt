use Rattle.std.proofs.Common.{◌≡◌, ◌≤◌, ◌-◌, Ok}
use Rattle.pdh_chain.specs.Calls.{ReceivesFirst}
use Rattle.pdh_chain.proofs.receiving.receive.Given as goal

-- the bits so far were received
abbrev pub invariant-loop-received : goal.invariant-loop-received
invariant-loop-received g l = record {
  within : l.received ≤ l.bits;
  room : l.buffer.capacity ≡ l.fn.buffer.capacity;
  same : g.R.Rx.meaning l.receiver ≡ g.R.Rx.meaning l.fn.receiver;
  receives : ReceivesFirst {T = Unit {0}} g.P.Feed g.P.Drain g.P.Port.kept (g.R.Rx.meaning l.fn.receiver) (g.R.Rx.stands l.receiver) (λ events. g.W.Watch.saw l.fn.watch events l.watch) l.received l.bits l.fn.port l.port (Ok tt);
}

abbrev pub decreases-loop-received : goal.decreases-loop-received
decreases-loop-received g l = l.bits - l.received
