use Rattle.std.proofs.lemmas.Result.{MatchResult-weaker}
use Rattle.pdh_claims_of_senders.proofs.tx.seventh_tributary_left_out.Goals as goal

pub returns : goal.returns
returns g c = MatchResult-weaker c.bit.result c.bit.ensures.made (λ bit made w at. (made.gives.place.made 6 w at).place) (λ stop none. none)
