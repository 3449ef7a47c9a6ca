use Rattle.std.proofs.lemmas.Result.{MatchResult-weaker}
use Rattle.pdh_claims_of_senders.proofs.tx.left_over_bits_not_put_back.Goals as goal

pub returns : goal.returns
returns g c = MatchResult-weaker c.piece.result c.piece.ensures.made (λ odd made j w at. (made.gives.place.made j w at).count) (λ failed none. none)
