use Rattle.std.proofs.lemmas.Result.{IfOk-weaker}
use Rattle.pdh_claims_of_health.proofs.health.losses_counted_as_wrong_bits.Goals as goal

pub returns : goal.returns
returns c = IfOk-weaker c.found_after.result _ _ (λ node is. is.bad_are) c.found_after.ensures
