use Rattle.std.proofs.Common.{arith, lit<}
use Rattle.pdh_claims_of_health.proofs.spans.stands_on_behind_its_end.Goals as goal

pub returns : goal.returns
returns c = c.begun.ensures _ (c.end.ensures _ (c.begin.ensures _ c.new-spans.ensures) (record { count = lit< tt; bits = omega arith }))
