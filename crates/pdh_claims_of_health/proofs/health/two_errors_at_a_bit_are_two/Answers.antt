use Rattle.std.proofs.lemmas.Result.{IfOk-weaker}
use Rattle.pdh_claims_of_health.proofs.health.two_errors_at_a_bit_are_two.Goals as goal

pub returns : goal.returns
returns c = IfOk-weaker c.found_after.result _ _ (λ node is. is.course_is.blocks_are) c.found_after.ensures
