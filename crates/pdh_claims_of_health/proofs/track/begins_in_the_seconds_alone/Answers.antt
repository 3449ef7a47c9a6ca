use Rattle.std.proofs.Common.{arith}
use Rattle.pdh_claims_of_health.proofs.track.begins_in_the_seconds_alone.Goals as goal

pub returns : goal.returns
returns c = c.begun.ensures _ (c.begin.ensures.stands _ c.new-track.ensures.stands (omega (arith, c.new-track.ensures.second)))
