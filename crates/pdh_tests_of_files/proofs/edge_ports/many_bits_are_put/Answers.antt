use Rattle.std.proofs.Common.{ap, ◌∙◌}
use Rattle.pdh_tests_of_files.proofs.edge_ports.many_bits_are_put.Goals as goal

pub room-requires : goal.room-requires
room-requires g c = record { held = ap (λ o. o.holds 0) c.in_ok-port.ensures.outputs }

pub put_all-requires-2 : goal.put_all-requires-2
put_all-requires-2 g c =
    ap (λ h. h 0) c.put_all.ensures.drained.2 ∙ ap (λ o. o.holds 0) c.room.ensures.outputs ∙ ap (λ o. o.holds 0) c.in_ok-port.ensures.outputs

pub put_all-requires-3 : goal.put_all-requires-3
put_all-requires-3 g c =
    ap (λ h. h 1) c.put_all-2.ensures.drained.2 ∙ ap (λ h. h 1) c.put_all.ensures.drained.2
    ∙ ap (λ o. o.holds 1) c.room.ensures.outputs ∙ ap (λ o. o.holds 1) c.in_ok-port.ensures.outputs

pub output-requires : goal.output-requires
output-requires g c =
    ap (λ h. h 1) c.put_all-3.ensures.drained.2 ∙ ap (λ h. h 1) c.put_all-2.ensures.drained.2 ∙ ap (λ h. h 1) c.put_all.ensures.drained.2
    ∙ ap (λ o. o.holds 1) c.room.ensures.outputs ∙ ap (λ o. o.holds 1) c.in_ok-port.ensures.outputs
