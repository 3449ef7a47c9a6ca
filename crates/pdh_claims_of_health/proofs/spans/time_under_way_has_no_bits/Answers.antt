use Rattle.std.proofs.Common.{ap, arith, lit<}
use Rattle.pdh_claims_of_health.proofs.spans.time_under_way_has_no_bits.Goals as goal

pub returns : goal.returns
returns c = omega (arith, ap (λ s. s.bits) (c.sum.ensures _ (c.begin.ensures _ c.new-spans.ensures) (record { count = lit< tt; bits = omega arith })))
