use Rattle.std.proofs.Common.{◌<◌, ◌≤◌, ◌+◌, ◌-◌, ◌*◌, ◌/◌, ◌∙◌, ℕ, ap, arith}
use Rattle.std.proofs.Math.Nat.{lt-div-mul-add, div-mul-le_self, mul-le-mul_left, add-mul}
use Rattle.pdh_line.proofs.FrameBounds.{lt_of_mul}
use Rattle.pdh_locked.proofs.quiet.frames_of.Goals as goal

pub returns-clause-all : goal.returns-clause-all
returns-clause-all g c =
    let some : 0 < c.from-len.result = omega (arith, c.from-len.ensures, c.LEN.ensures, g.met.S.Shape.len_is, g.met.S.Shape.is_frame.some_slots) in
    let x : ℕ = c.from.result + c.args.slots + (c.from-len.result - 1) in
    let floor = lt-div-mul-add {a = x} some in
    let same = ap (λ n. x / c.from-len.result * n) (c.from-len.ensures ∙ c.LEN.ensures) in
    omega (arith, floor, same, c.from.ensures)

pub returns-clause-few : goal.returns-clause-few
returns-clause-few g c =
    let len : ℕ = c.from-len.result in
    let some : 0 < len = omega (arith, c.from-len.ensures, c.LEN.ensures, g.met.S.Shape.len_is, g.met.S.Shape.is_frame.some_slots) in
    let x : ℕ = c.from.result + c.args.slots + (len - 1) in
    let wide : c.args.slots * 1 ≤ c.args.slots * len = mul-le-mul_left c.args.slots some in
    let few : x / len < c.args.slots + 3 =
    lt_of_mul _ _ len (omega (arith, div-mul-le_self x len, wide, c.requires.slot, c.from.ensures, c.from-len.ensures, c.LEN.ensures, add-mul c.args.slots 3 len)) in
    omega (arith, few)
