use Rattle.std.proofs.Common.{[], ◌∷◌, ◌++◌, length, map, nat_lt, ap, ◌∙◌}
use Rattle.pdh_edge.specs.MemLists.{items_of}
use Rattle.pdh_tests_of_files.proofs.edge_ports.port_in_memory.Goals as goal

pub room-requires : goal.room-requires
room-requires g c = record { held = ap (λ o. o.holds 1) c.in_ok-port.ensures.outputs }

pub bit-requires : goal.bit-requires
bit-requires g c =
    ap (λ i. i.holds 0) c.start.ensures.inputs ∙ ap (λ i. i.holds 0) c.room.ensures.inputs ∙ ap (λ i. i.holds 0) c.in_ok-port.ensures.inputs
    ∙ ap (λ l. nat_lt 0 (length (map items_of l))) (c.in_ok-push.ensures.items ∙ ap (λ l. l ++ c.in_ok-list_of.field-0 ∷ []) c.new-lists.ensures.items)

pub put-requires : goal.put-requires
put-requires g c =
    ap (λ v. nat_lt 1 (length (map items_of v.items))) c.bit.ensures.fed.0
    ∙ ap (λ o. o.holds 1) c.start.ensures.outputs ∙ ap (λ o. o.holds 1) c.room.ensures.outputs ∙ ap (λ o. o.holds 1) c.in_ok-port.ensures.outputs

pub put-requires-2 : goal.put-requires-2
put-requires-2 g c =
    ap (λ v. nat_lt 1 (length (map items_of v.items))) c.bit-2.ensures.fed.0 ∙ ap (λ h. h 1) c.put.ensures.drained.2 ∙ ap (λ v. nat_lt 1 (length (map items_of v.items))) c.bit.ensures.fed.0
    ∙ ap (λ o. o.holds 1) c.start.ensures.outputs ∙ ap (λ o. o.holds 1) c.room.ensures.outputs ∙ ap (λ o. o.holds 1) c.in_ok-port.ensures.outputs

pub put-requires-3 : goal.put-requires-3
put-requires-3 g c =
    ap (λ v. nat_lt 0 (length (map items_of v.items))) c.bit-3.ensures.fed.0 ∙ ap (λ h. h 0) c.put-2.ensures.drained.2 ∙ ap (λ v. nat_lt 0 (length (map items_of v.items))) c.bit-2.ensures.fed.0 ∙ ap (λ h. h 0) c.put.ensures.drained.2 ∙ ap (λ v. nat_lt 0 (length (map items_of v.items))) c.bit.ensures.fed.0
    ∙ ap (λ o. o.holds 0) c.start.ensures.outputs ∙ ap (λ o. o.holds 0) c.room.ensures.outputs ∙ ap (λ o. o.holds 0) c.in_ok-port.ensures.outputs

pub output-requires : goal.output-requires
output-requires g c =
    ap (λ h. h 0) c.put-3.ensures.drained.2 ∙ ap (λ v. nat_lt 0 (length (map items_of v.items))) c.bit-3.ensures.fed.0 ∙ ap (λ h. h 0) c.put-2.ensures.drained.2 ∙ ap (λ v. nat_lt 0 (length (map items_of v.items))) c.bit-2.ensures.fed.0 ∙ ap (λ h. h 0) c.put.ensures.drained.2 ∙ ap (λ v. nat_lt 0 (length (map items_of v.items))) c.bit.ensures.fed.0
    ∙ ap (λ o. o.holds 0) c.start.ensures.outputs ∙ ap (λ o. o.holds 0) c.room.ensures.outputs ∙ ap (λ o. o.holds 0) c.in_ok-port.ensures.outputs

pub output-output-requires : goal.output-output-requires
output-output-requires g c =
    ap (λ h. h 1) c.put-3.ensures.drained.2 ∙ ap (λ v. nat_lt 1 (length (map items_of v.items))) c.bit-3.ensures.fed.0 ∙ ap (λ h. h 1) c.put-2.ensures.drained.2 ∙ ap (λ v. nat_lt 1 (length (map items_of v.items))) c.bit-2.ensures.fed.0 ∙ ap (λ h. h 1) c.put.ensures.drained.2 ∙ ap (λ v. nat_lt 1 (length (map items_of v.items))) c.bit.ensures.fed.0
    ∙ ap (λ o. o.holds 1) c.start.ensures.outputs ∙ ap (λ o. o.holds 1) c.room.ensures.outputs ∙ ap (λ o. o.holds 1) c.in_ok-port.ensures.outputs
