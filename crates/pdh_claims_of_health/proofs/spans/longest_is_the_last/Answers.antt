use Rattle.std.proofs.Common.{ap, arith, lit<}
use Rattle.pdh_claims_of_health.proofs.spans.longest_is_the_last.Goals as goal

pub returns : goal.returns
returns c =
    let ended = c.end.ensures _ (c.begin.ensures _ c.new-spans.ensures) (record { count = lit< tt; bits = omega arith }) in
    let sum = c.sum.ensures _ (c.begin-2.ensures _ ended) (record { count = lit< tt; bits = omega arith }) in
    omega (arith, ap (λ s. s.longest) sum)
