use Rattle.std.proofs.Common.{ap, arith, lit<}
use Rattle.pdh_claims_of_health.proofs.spans.begins_anew_while_it_stands.Goals as goal

pub returns : goal.returns
returns c =
    let sum = c.sum.ensures _ (c.begin-2.ensures _ (c.begin.ensures _ c.new-spans.ensures)) (record { count = lit< tt; bits = omega arith }) in
    omega (arith, ap (λ s. s.bits) sum)
