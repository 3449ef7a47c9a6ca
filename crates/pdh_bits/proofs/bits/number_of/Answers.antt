use Rattle.std.proofs.Common.{◌≡◌, ℕ, ◌+◌, ◌*◌, Bool, true, false, List, [], ◌∷◌, length, get_or, refl, ◌∙◌, arith}
use Rattle.pdh_bits.specs.Bits.{bit_value, number_of}
use mir.Val.{bool_byte}
use Rattle.pdh_bits.proofs.bits.number_of.Goals as goal

worth : (b : Bool) → bool_byte b ≡ bit_value b
worth true = refl
worth false = refl

eight : (bits : List Bool) (r7 r6 r5 r4 r3 r2 r1 r0 : ℕ) → length bits ≡ 8
    → r7 ≡ bool_byte (get_or bits 0 false) → r6 ≡ bool_byte (get_or bits 1 false) → r5 ≡ bool_byte (get_or bits 2 false) → r4 ≡ bool_byte (get_or bits 3 false)
    → r3 ≡ bool_byte (get_or bits 4 false) → r2 ≡ bool_byte (get_or bits 5 false) → r1 ≡ bool_byte (get_or bits 6 false) → r0 ≡ bool_byte (get_or bits 7 false)
    → 128 * r7 + 64 * r6 + 32 * r5 + 16 * r4 + 8 * r3 + 4 * r2 + 2 * r1 + r0 ≡ number_of bits
eight (b7 ∷ b6 ∷ b5 ∷ b4 ∷ b3 ∷ b2 ∷ b1 ∷ b0 ∷ []) r7 r6 r5 r4 r3 r2 r1 r0 long e7 e6 e5 e4 e3 e2 e1 e0 =
    omega (arith, e7 ∙ worth b7, e6 ∙ worth b6, e5 ∙ worth b5, e4 ∙ worth b4, e3 ∙ worth b3, e2 ∙ worth b2, e1 ∙ worth b1, e0 ∙ worth b0)
eight bits r7 r6 r5 r4 r3 r2 r1 r0 long e7 e6 e5 e4 e3 e2 e1 e0 = absurd (omega arith)

pub returns : goal.returns
returns c =
    eight c.args.bits.now _ _ _ _ _ _ _ _ c.requires c.from.ensures c.from-2.ensures c.from-3.ensures c.from-4.ensures c.from-5.ensures c.from-6.ensures c.from-7.ensures c.from-8.ensures
