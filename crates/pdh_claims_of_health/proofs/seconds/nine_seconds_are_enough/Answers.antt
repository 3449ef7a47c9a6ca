use Rattle.std.proofs.Common.{ap, lit<}
use Rattle.pdh_claims_of_health.proofs.seconds.nine_seconds_are_enough.Goals as goal

pub returns : goal.returns
returns c = ap (λ t. t.unavailable) (c.tally.ensures _ (c.note.ensures _ c.requires (lit< tt)) (lit< tt))
