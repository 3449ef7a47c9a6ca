use Rattle.std.proofs.Common.{◌++◌, ◌∷◌, [], map, sym, ap, ◌∙◌}
use Rattle.std.specs.List.{range_with_len}
use Rattle.pdh_runs.proofs.Counts.{made_next}
use Rattle.pdh_runs.proofs.tables.roles.Goals as goal

pub loop-slot-preserved : goal.loop-slot-preserved
loop-slot-preserved g c =
    let role = g.S.Shape.shape.role in
    let k = c.loop-slot.slot in
    c.in_ok-push.ensures.items ∙ ap (λ l. l ++ c.role.result ∷ []) c.loop-slot.invariant ∙ ap (λ r. map role (range_with_len 0 k) ++ r ∷ []) c.role.ensures ∙ sym (made_next role k)
