use Rattle.std.proofs.Common.{◌∙◌, ◌++◌, ◌∷◌, [], ap, length, map, nat_lt}
use Rattle.pdh_edge.specs.MemLists.{items_of}
use Rattle.pdh_edge.specs.Ports.{Inputs, Outputs}
use Rattle.pdh_tests_of_chains.proofs.recovery.bent.Goals as goal

pub room-requires : goal.room-requires
room-requires c = record { held = ap (λ (o : Outputs). o.holds 0) c.in_ok-port.ensures.outputs }

pub apply-requires-clause-line : goal.apply-requires-clause-line
apply-requires-clause-line c =
    ap (λ (i : Inputs). i.holds 0) c.room.ensures.inputs ∙ ap (λ (i : Inputs). i.holds 0) c.in_ok-port.ensures.inputs
    ∙ ap (λ l. nat_lt 0 (length (map items_of l))) (c.in_ok-push.ensures.items ∙ ap (λ l. l ++ c.in_ok-of_bits.field-0 ∷ []) c.new-lists.ensures.items)

pub apply-requires-clause-out : goal.apply-requires-clause-out
apply-requires-clause-out c = ap (λ (o : Outputs). o.holds 0) c.room.ensures.outputs ∙ ap (λ (o : Outputs). o.holds 0) c.in_ok-port.ensures.outputs

pub output-requires : goal.output-requires
output-requires c = ap (λ h. h 0) c.apply.ensures.kept.2 ∙ ap (λ (o : Outputs). o.holds 0) c.room.ensures.outputs ∙ ap (λ (o : Outputs). o.holds 0) c.in_ok-port.ensures.outputs
