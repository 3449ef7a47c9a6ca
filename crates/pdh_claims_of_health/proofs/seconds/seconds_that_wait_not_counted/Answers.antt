use Rattle.std.proofs.Common.{ap, lit<}
use Rattle.pdh_claims_of_health.proofs.seconds.seconds_that_wait_not_counted.Goals as goal

pub returns : goal.returns
returns c = ap (λ t. t.seconds) (c.tally.ensures _ (c.note.ensures _ c.new-seconds.ensures (lit< tt)) (lit< tt))
