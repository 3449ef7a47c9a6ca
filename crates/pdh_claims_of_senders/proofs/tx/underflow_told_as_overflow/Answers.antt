use Rattle.std.proofs.lemmas.Result.{MatchResult-weaker}
use Rattle.pdh_claims_of_senders.proofs.tx.underflow_told_as_overflow.Goals as goal

pub returns : goal.returns
returns g c plan mode decided arrived =
    MatchResult-weaker c.slot_bit.result (c.slot_bit.ensures.told plan mode decided arrived).all (λ bit all. all.logs_them) (λ stop none. none)
