use Rattle.std.proofs.Common.{◌≡◌, ℕ, ◌*◌, ◌/◌, length, refl, subst, arith}
use Rattle.pdh_e1.specs.Codec.{IsPackedUpTo}
use Rattle.pdh_e1.proofs.PackingLaws.{packed_none, packed_all}
use Rattle.pdh_e1.proofs.codec.pack.Goals as goal

pub loop-number-init : goal.loop-number-init
loop-number-init c = packed_none c.args.payload.now c.in_ok-line.line.items 0 c.in_ok-line.ensures.items refl

pub returns : goal.returns
returns c =
    let payload = c.args.payload.now in
    let all : c.loop-number.number ≡ length payload / 248 = omega arith in
    packed_all payload c.loop-number.line.items (omega arith) (subst (λ (n : ℕ). IsPackedUpTo payload c.loop-number.line.items (8 * n)) all c.loop-number.invariant)
