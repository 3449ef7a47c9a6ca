use Rattle.std.proofs.Common.{◌*◌, ◌-◌, ◌^◌, ◌≤◌, arith}
use Rattle.std.proofs.Math.Nat.{mul-le-mul}
use Rattle.pdh_timeline.proofs.timeline.are_many.Goals as goal

pub overflow_mul-result-3 : goal.overflow_mul-result-3
overflow_mul-result-3 c =
    let blocks : 10 * c.from-2.result ≤ 10 * (2 ^ 64 - 1) = omega arith in
    let block : c.from-3.result ≤ 2 ^ 32 - 1 = omega arith in
    let most : 10 * c.from-2.result * c.from-3.result ≤ 10 * (2 ^ 64 - 1) * (2 ^ 32 - 1) = mul-le-mul blocks block in
    omega (arith, most)
