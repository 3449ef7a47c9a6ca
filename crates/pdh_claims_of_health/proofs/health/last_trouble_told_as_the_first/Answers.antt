use Rattle.std.proofs.Common.{◌≡◌, IfSome, refl, sym, subst}
use Rattle.pdh_claims_of_health.proofs.health.last_trouble_told_as_the_first.Goals as goal

pub returns : goal.returns
returns c = subst (λ first. IfSome first (λ placed. placed.place ≡ 0)) (sym c.in_ok-found.ensures.first_is) refl
