use Rattle.std.proofs.lemmas.Result.{MatchResult-weaker}
use Rattle.pdh_claims_of_senders.proofs.tx.lead_one_bit_short.Goals as goal

pub returns : goal.returns
returns g c = MatchResult-weaker c.bit.result c.bit.ensures.made (λ bit made j w at. (made.gives.place.made j w at).count) (λ stop none. none)
