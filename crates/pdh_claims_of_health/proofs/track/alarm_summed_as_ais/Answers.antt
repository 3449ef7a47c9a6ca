use Rattle.std.proofs.Common.{ap, arith, lit<}
use Rattle.pdh_claims_of_health.proofs.track.alarm_summed_as_ais.Goals as goal

pub returns : goal.returns
returns c =
    let begun = c.begin.ensures.stands _ c.new-track.ensures.stands (omega (arith, c.new-track.ensures.second)) in
    let sum = c.sum.ensures _ begun (record { count = lit< tt; bits = omega arith }) in
    record { count = ap (λ s. s.count) sum; bits = omega (arith, ap (λ s. s.bits) sum) }
