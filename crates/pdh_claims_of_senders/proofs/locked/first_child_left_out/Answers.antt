use Rattle.std.proofs.lemmas.Result.{MatchResult-weaker}
use Rattle.pdh_claims_of_senders.proofs.locked.first_child_left_out.Goals as goal

pub returns : goal.returns
returns g c = MatchResult-weaker c.piece.result c.piece.ensures.made (λ odd made child at. (made.gives.place.made 0 child at).place) (λ failed none. none)
