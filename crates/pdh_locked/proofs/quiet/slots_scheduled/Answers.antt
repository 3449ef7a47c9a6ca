use Rattle.std.proofs.Common.{◌≡◌, ◌≤◌, ◌+◌, ◌*◌, ◌^◌, ap, ◌∙◌, sym, arith}
use Rattle.std.proofs.Math.Nat.{mul-le-mul_right}
use Rattle.pdh_locked.proofs.quiet.slots_scheduled.Goals as goal

pub overflow_mul-frames : goal.overflow_mul-frames
overflow_mul-frames g c =
    let few : c.min-frames.result ≤ 2 ^ 24 + 2 = omega (arith, c.min-frames.ensures, c.frames_of-wanted.ensures.few, c.requires.few) in
    omega (arith, mul-le-mul_right c.from.result few)

pub returns-clause-scheduled : goal.returns-clause-scheduled
returns-clause-scheduled g c =
    let len : c.from.result ≡ g.S.Shape.shape.len = c.from.ensures ∙ c.LEN.ensures ∙ sym g.met.S.Shape.len_is in
    let whole = ap (λ n. c.min-frames.result * n) len in
    record {
      frames = c.min-frames.result;
      scheduled = λ m from to. omega (arith, from, to, c.min-frames.ensures, c.saturating_sub.ensures, c.frames.ensures);
      inside = λ some. omega (arith, whole, some, c.min.ensures, c.saturating_sub-slots.ensures);
    }
