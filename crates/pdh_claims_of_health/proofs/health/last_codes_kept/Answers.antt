use Rattle.std.proofs.Common.{[], ◌∷◌}
use Rattle.pdh_claims_of_health.proofs.health.last_codes_kept.Goals as goal

pub returns : goal.returns
returns c =
    let a = c.args in
    let two = c.plus-2.ensures (a.one ∷ []) (c.plus.ensures [] c.none.ensures) in
    c.plus-4.ensures (a.one ∷ a.two ∷ a.three ∷ []) (c.plus-3.ensures (a.one ∷ a.two ∷ []) two)
