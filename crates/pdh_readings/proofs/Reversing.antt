-- The bits of a byte whose bits are in reverse order.
use Rattle.std.proofs.Common.{◌≡◌, ℕ, ◌<◌, Bool, true, false, ◌&&◌, List, [], ◌∷◌, refl, ap, ◌∙◌}
use Rattle.std.specs.Bool.{beq}
use Rattle.std.specs.Int.{w8, reverse_bits, reverse_bits_onto}
use Rattle.std.proofs.lemmas.Bool.{agree_below_at, and_parts, false≢true}
use Rattle.pdh_bits.specs.Bits.{bits_of_byte}
use Rattle.pdh_readings.specs.Orders.{reversed_byte}

-- two lists have the same bits
abbrev same_bits : List Bool → List Bool → Bool
same_bits [] [] = true
same_bits (x ∷ xs) (y ∷ ys) = beq x y && same_bits xs ys
same_bits _ _ = false

same_bit : (x y : Bool) → beq x y ≡ true → x ≡ y
same_bit true true same = refl
same_bit false false same = refl
same_bit true false same = absurd (false≢true same)
same_bit false true same = absurd (false≢true same)

same_lists_of : (xs ys : List Bool) → same_bits xs ys ≡ true → xs ≡ ys
same_lists_of [] [] same = refl
same_lists_of (x ∷ xs) (y ∷ ys) same =
    let parts = and_parts (beq x y) (same_bits xs ys) same in
    ap (λ b. b ∷ xs) (same_bit x y parts.0) ∙ ap (λ (l : List Bool). y ∷ l) (same_lists_of xs ys parts.1)
same_lists_of [] (y ∷ ys) same = absurd (false≢true same)
same_lists_of (x ∷ xs) [] same = absurd (false≢true same)

pub reversed : (byte : ℕ) → byte < 256 → bits_of_byte (reverse_bits w8 byte) ≡ reversed_byte byte
unfolding reverse_bits_onto
reversed byte small =
    same_lists_of (bits_of_byte (reverse_bits w8 byte)) (reversed_byte byte)
    (agree_below_at (λ (b : ℕ). same_bits (bits_of_byte (reverse_bits w8 b)) (reversed_byte b)) (λ (b : ℕ). true) 256 byte refl small)
