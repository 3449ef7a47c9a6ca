use Rattle.std.proofs.lemmas.Result.{MatchResult-weaker}
use Rattle.pdh_claims_of_senders.proofs.tx.decides_until_the_frames_end.Goals as goal

pub returns : goal.returns
returns g c = MatchResult-weaker c.bit.result c.bit.ensures.made (λ bit made j w at. (made.gives.place.decided j w at).more) (λ stop none. none)
