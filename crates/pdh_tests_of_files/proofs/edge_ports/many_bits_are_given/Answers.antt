use Rattle.std.proofs.Common.{[], ◌∷◌, ◌++◌, length, map, nat_lt, ap, ◌∙◌}
use Rattle.pdh_edge.specs.MemLists.{items_of}
use Rattle.pdh_tests_of_files.proofs.edge_ports.many_bits_are_given.Goals as goal

pub left-requires : goal.left-requires
left-requires g c =
    ap (λ i. i.holds 0) c.in_ok-port.ensures.inputs ∙ ap (λ l. nat_lt 0 (length (map items_of l))) (c.in_ok-push.ensures.items ∙ ap (λ l. l ++ c.in_ok-list_of.field-0 ∷ []) c.new-lists.ensures.items)

pub left-requires-2 : goal.left-requires-2
left-requires-2 g c =
    ap (λ h. h 0) c.bits.ensures.fed.2
    ∙ ap (λ i. i.holds 0) c.in_ok-port.ensures.inputs ∙ ap (λ l. nat_lt 0 (length (map items_of l))) (c.in_ok-push.ensures.items ∙ ap (λ l. l ++ c.in_ok-list_of.field-0 ∷ []) c.new-lists.ensures.items)

pub bits-requires-3-clause-held : goal.bits-requires-3-clause-held
bits-requires-3-clause-held g c =
    ap (λ h. h 0) c.bits-2.ensures.fed.2 ∙ ap (λ h. h 0) c.bits.ensures.fed.2
    ∙ ap (λ i. i.holds 0) c.in_ok-port.ensures.inputs ∙ ap (λ l. nat_lt 0 (length (map items_of l))) (c.in_ok-push.ensures.items ∙ ap (λ l. l ++ c.in_ok-list_of.field-0 ∷ []) c.new-lists.ensures.items)
