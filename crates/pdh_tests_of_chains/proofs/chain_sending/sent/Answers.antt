use Rattle.std.proofs.Common.{rules, ap, length, ◌<◌, ◌∙◌, arith}
use Rattle.pdh_edge.specs.Ports.{Outputs}
use Rattle.pdh_edge.proofs.Holding.{inputs_hold}
use Rattle.pdh_chain.specs.Chains.{leaves_of}
use Rattle.pdh_tests_of_chains.proofs.chain_sending.sent.Goals as goal

pub room-requires : goal.room-requires
room-requires c = record { held = ap (λ (o : Outputs). o.holds 0) c.in_ok-port.ensures.outputs }

pub mux-requires-clause-port : goal.mux-requires-clause-port
mux-requires-clause-port c = record {
  is_fresh = search rules;
  has_leaves = λ k low. inputs_hold c.in_ok-packed.field-0.items (leaves_of c.args.chain) k (c.room.ensures.inputs ∙ c.in_ok-port.ensures.inputs) (c.in_ok-packed.ensures ∙ ap length c.deref.ensures.value ∙ c.requires.lists) low;
  has_line = ap (λ (o : Outputs). o.holds 0) c.room.ensures.outputs ∙ ap (λ (o : Outputs). o.holds 0) c.in_ok-port.ensures.outputs;
}

pub left-requires : goal.left-requires
left-requires c =
    let known : c.loop-leaf.leaf < leaves_of c.args.chain = omega (arith, c.loop-leaf-test.true, c.leaves-leaf-end.ensures.value) in
    ap (λ h. h c.loop-leaf.leaf) c.mux.ensures.kept.1
    ∙ inputs_hold c.in_ok-packed.field-0.items (leaves_of c.args.chain) c.loop-leaf.leaf (c.room.ensures.inputs ∙ c.in_ok-port.ensures.inputs) (c.in_ok-packed.ensures ∙ ap length c.deref.ensures.value ∙ c.requires.lists) known
