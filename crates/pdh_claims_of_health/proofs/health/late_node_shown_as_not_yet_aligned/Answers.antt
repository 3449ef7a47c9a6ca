use Rattle.std.proofs.lemmas.Result.{IfOk-weaker}
use Rattle.pdh_claims_of_health.proofs.health.late_node_shown_as_not_yet_aligned.Goals as goal

pub returns : goal.returns
returns c = IfOk-weaker c.found_after.result _ _ (λ node is. is.early_is) c.found_after.ensures
