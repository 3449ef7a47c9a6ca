use Rattle.std.proofs.Common.{rules, ap, subst, ◌<◌, ◌∙◌}
use Rattle.pdh_edge.specs.Ports.{Outputs}
use Rattle.pdh_edge.proofs.Holding.{inputs_hold}
use Rattle.pdh_tests_of_chains.proofs.chain.run.Goals as goal

pub room-requires : goal.room-requires
room-requires c = record { held = ap (λ (o : Outputs). o.holds 0) c.in_ok-port.ensures.outputs }

pub mux-end-requires-clause-port : goal.mux-end-requires-clause-port
mux-end-requires-clause-port c = record {
  is_fresh = search rules;
  has_leaves = λ k low. inputs_hold c.in_ok-zeros.field-0.items 4 k (c.room.ensures.inputs ∙ c.in_ok-port.ensures.inputs) c.in_ok-zeros.ensures (subst (λ n. k < n) c.requires low);
  has_line = ap (λ (o : Outputs). o.holds 0) c.room.ensures.outputs ∙ ap (λ (o : Outputs). o.holds 0) c.in_ok-port.ensures.outputs;
}

pub output-requires : goal.output-requires
output-requires c = ap (λ h. h 0) c.mux-end.ensures.kept.2 ∙ ap (λ (o : Outputs). o.holds 0) c.room.ensures.outputs ∙ ap (λ (o : Outputs). o.holds 0) c.in_ok-port.ensures.outputs
