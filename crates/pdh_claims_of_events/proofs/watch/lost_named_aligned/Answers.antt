use Rattle.bitflags.proofs.OnLiterals.{bitflags_on_literals}
use Rattle.pdh_claims_of_events.proofs.watch.lost_named_aligned.Goals as goal

pub returns : goal.returns
unfolding bitflags_on_literals
returns c = c.from_name.ensures tt
