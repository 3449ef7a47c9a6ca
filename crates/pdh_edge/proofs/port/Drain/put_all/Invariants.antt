use Rattle.std.proofs.Common.{◌≡◌, take}
use Rattle.pdh_edge.specs.Ports.{Puts, for_leaf}
use Rattle.pdh_edge.proofs.port.Drain.put_all.Given as goal

-- the bits so far are put
abbrev pub invariant-loop-place : goal.invariant-loop-place
invariant-loop-place g l = record {
  puts : Puts (for_leaf l.leaf (take l.place l.bits.bits)) (g.Self.Drain.outputs l.fn.self) (g.Self.Drain.outputs l.self);
  unfailed : g.Self.Drain.drain_faults l.self ≡ g.Self.Drain.drain_faults l.fn.self;
  drained : g.Self.Drain.drained l.fn.self l.self;
}
