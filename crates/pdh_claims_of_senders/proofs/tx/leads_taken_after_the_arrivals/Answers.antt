use Rattle.std.proofs.lemmas.Result.{MatchResult-weaker}
use Rattle.pdh_claims_of_senders.proofs.tx.leads_taken_after_the_arrivals.Goals as goal

pub returns : goal.returns
returns g c = MatchResult-weaker c.bit.result c.bit.ensures.err (λ bit none. none) (λ stop blocked alive size fit. blocked.met.is_first alive size fit)
