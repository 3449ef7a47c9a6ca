use Rattle.std.proofs.Common.{arith, ap, ◌∙◌}
use Rattle.std.proofs.lemmas.Bool.{lt-ltb}
use Rattle.pdh_edge.specs.Ports.{Outputs}
use Rattle.pdh_tests_of_receivers.proofs.rx.port_with_rooms.Goals as goal

pub room-requires : goal.room-requires
room-requires c = record {
  held = ap (λ (o : Outputs). o.holds c.loop-leaf.leaf) (c.loop-leaf.invariant ∙ c.in_ok-port.ensures.outputs) ∙ lt-ltb c.loop-leaf.leaf 4 (omega arith);
}

pub returns : goal.returns
returns c k less = ap (λ (o : Outputs). o.holds k) (c.loop-leaf.invariant ∙ c.in_ok-port.ensures.outputs) ∙ lt-ltb k 4 less
