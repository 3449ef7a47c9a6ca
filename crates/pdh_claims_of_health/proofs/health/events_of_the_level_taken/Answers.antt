use Rattle.std.proofs.Common.{ap}
use Rattle.std.proofs.lemmas.Result.{IfOk-weaker}
use Rattle.pdh_event_counts.specs.declared.counts.Counts.{Counts}
use Rattle.pdh_claims_of_health.proofs.health.events_of_the_level_taken.Goals as goal

pub returns : goal.returns
returns c = IfOk-weaker c.found_after.result _ _ (λ node is. ap (λ (n : Counts). n.lost) is.counts_are) c.found_after.ensures
