use Rattle.pdh_patterns.specs.Leaves.{made_counts}
use Rattle.pdh_claims_of_lines.proofs.patterns.schedule_without_offsets.Goals as goal

pub returns : goal.returns
unfolding made_counts
returns c = c.in_ok-clock.ensures.counts_are
