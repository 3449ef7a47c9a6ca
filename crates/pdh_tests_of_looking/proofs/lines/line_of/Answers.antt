use Rattle.std.proofs.Common.{rules, ap, ◌∙◌}
use Rattle.pdh_edge.specs.Ports.{Outputs}
use Rattle.pdh_edge.proofs.Holding.{inputs_hold}
use Rattle.pdh_chain.specs.Chains.{leaves_of}
use Rattle.pdh_tests_of_looking.proofs.lines.line_of.Goals as goal

pub room-requires : goal.room-requires
room-requires c = record { held = ap (λ (o : Outputs). o.holds 0) c.in_ok-port.ensures.outputs }

pub mux-requires-clause-port : goal.mux-requires-clause-port
mux-requires-clause-port c = record {
  is_fresh = search rules;
  has_leaves = λ k low. inputs_hold c.in_ok-patterns.field-0.items (leaves_of c.args.chain) k (c.room.ensures.inputs ∙ c.in_ok-port.ensures.inputs) c.in_ok-patterns.ensures low;
  has_line = ap (λ (o : Outputs). o.holds 0) c.room.ensures.outputs ∙ ap (λ (o : Outputs). o.holds 0) c.in_ok-port.ensures.outputs;
}
