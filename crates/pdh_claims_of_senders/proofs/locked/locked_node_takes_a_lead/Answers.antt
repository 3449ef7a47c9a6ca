use Rattle.std.proofs.lemmas.Result.{MatchResult-weaker}
use Rattle.pdh_claims_of_senders.proofs.locked.locked_node_takes_a_lead.Goals as goal

pub returns : goal.returns
returns g c = MatchResult-weaker c.bit.result c.bit.ensures.made (λ bit made j child at. (made.gives.place.made j child at).place) (λ stop none. none)
