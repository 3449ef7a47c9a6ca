use Rattle.std.proofs.Common.{◌≡◌, ◌*◌, ◌≤◌, ◌^◌, ap, arith}
use Rattle.std.proofs.lemmas.Bool.{leb-true}
use Rattle.std.proofs.Math.Nat.{mul-le-mul_right}
use Rattle.pdh_rows.proofs.inside.keeps_step.Goals as goal

pub overflow_mul-least : goal.overflow_mul-least
overflow_mul-least c =
    let frames = c.args.flow.frames in
    let low : c.from.result ≤ 2 ^ 32 = omega (arith, c.from.ensures) in
    omega (arith, mul-le-mul_right frames low, c.requires.fits.few)

pub returns : goal.returns
returns c = λ yes.
    let frames = c.args.flow.frames in
    let least : c.from.result * frames ≡ c.args.low * frames = ap (λ n. n * frames) c.from.ensures in
    record {
      least = omega (arith, least, c.if-flow-least.false);
      most = omega (arith, least, leb-true _ _ yes);
    }
