use Rattle.std.proofs.Common.{◌∙◌, ◌++◌, ◌∷◌, [], ap, length, map, nat_lt}
use Rattle.pdh_edge.specs.MemLists.{items_of}
use Rattle.pdh_edge.specs.Ports.{Inputs, Outputs}
use Rattle.pdh_tests_of_chains.proofs.script.disturbed.Goals as goal

pub room-requires : goal.room-requires
room-requires c = record { held = ap (λ (o : Outputs). o.holds 0) c.in_ok-port.ensures.outputs }

pub apply-end-requires-clause-line : goal.apply-end-requires-clause-line
apply-end-requires-clause-line c =
    ap (λ (i : Inputs). i.holds 0) c.room.ensures.inputs ∙ ap (λ (i : Inputs). i.holds 0) c.in_ok-port.ensures.inputs
    ∙ ap (λ l. nat_lt 0 (length (map items_of l))) (c.in_ok-push.ensures.items ∙ ap (λ l. l ++ c.append_bytes.new.self ∷ []) c.new-lists.ensures.items)

pub apply-end-requires-clause-out : goal.apply-end-requires-clause-out
apply-end-requires-clause-out c = ap (λ (o : Outputs). o.holds 0) c.room.ensures.outputs ∙ ap (λ (o : Outputs). o.holds 0) c.in_ok-port.ensures.outputs

pub output-put-requires : goal.output-put-requires
output-put-requires c = ap (λ h. h 0) c.apply-end.ensures.kept.2 ∙ ap (λ (o : Outputs). o.holds 0) c.room.ensures.outputs ∙ ap (λ (o : Outputs). o.holds 0) c.in_ok-port.ensures.outputs
