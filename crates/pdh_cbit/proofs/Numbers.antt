-- The number that bits write, and the bits of a number.
use Rattle.std.proofs.Common.{◌≡◌, ℕ, zero, suc, ◌+◌, ◌*◌, ◌/◌, ◌%◌, ◌^◌, ◌<◌, ◌≤◌, Bool, true, false, eqb, List, [], ◌∷◌, ◌++◌, length, reverse, take, get_or, refl, sym, ◌∙◌, ap, arith}
use Rattle.std.proofs.lemmas.List.{reverse-append}
use Rattle.std.proofs.Math.Nat.{pow-suc}
use Rattle.std.specs.List.{fold}
use Rattle.pdh_bits.specs.Bits.{bit, bit_value, with_bit, number_of}

-- a bit is worth at most 1
pub bit_value_le : (b : Bool) → bit_value b ≤ 1
bit_value_le true = omega arith
bit_value_le false = omega arith

-- a number below 2 is what the test for 1 is worth
value_of_test : (n : ℕ) → n < 2 → bit_value (eqb n 1) ≡ n
value_of_test zero small = refl
value_of_test (suc zero) small = refl
value_of_test (suc (suc n)) small = absurd (omega arith)

-- what a bit of a number is worth
pub bit_value-bit : (n k : ℕ) → bit_value (bit n k) ≡ n / 2 ^ k % 2
bit_value-bit n k = value_of_test (n / 2 ^ k % 2) (omega arith)

-- a bit of a number by what it is worth
pub bit_is : (n k : ℕ) (b : Bool) → n / 2 ^ k % 2 ≡ bit_value b → bit n k ≡ b
bit_is n k true worth = ap (λ (v : ℕ). eqb v 1) worth
bit_is n k false worth = ap (λ (v : ℕ). eqb v 1) worth

-- two bits are equal where they are worth as much
pub same_bit : (a b : Bool) → bit_value a ≡ bit_value b → a ≡ b
same_bit true true same = refl
same_bit true false same = absurd (omega arith)
same_bit false true same = absurd (omega arith)
same_bit false false same = refl

-- the number that bits write, the least significant first
abbrev pub value_of : List Bool → ℕ
value_of [] = 0
value_of (b ∷ bits) = bit_value b + 2 * value_of bits

-- one more bit
fold-push : (n : ℕ) (bits : List Bool) (b : Bool) → fold with_bit n (bits ++ b ∷ []) ≡ with_bit (fold with_bit n bits) b
fold-push n [] b = refl
fold-push n (x ∷ bits) b = fold-push (with_bit n x) bits b

pub number_of-push : (bits : List Bool) (b : Bool) → number_of (bits ++ b ∷ []) ≡ with_bit (number_of bits) b
number_of-push bits b = fold-push 0 bits b

-- bits the other way round write the same number the other way round
pub number_of-reverse : (bits : List Bool) → number_of (reverse bits) ≡ value_of bits
number_of-reverse [] = refl
number_of-reverse (b ∷ bits) =
    let reversed : reverse (b ∷ bits) ≡ reverse bits ++ b ∷ [] = reverse-append (b ∷ []) bits in
    let pushed : number_of (reverse bits ++ b ∷ []) ≡ with_bit (number_of (reverse bits)) b = number_of-push (reverse bits) b in
    rw (reversed, pushed) (omega (arith, number_of-reverse bits))

-- so many bits write a number below that power of two
pub value_of_lt : (bits : List Bool) → value_of bits < 2 ^ length bits
value_of_lt [] = omega arith
value_of_lt (b ∷ bits) = omega (arith, bit_value_le b, value_of_lt bits, pow-suc 2 (length bits))

-- one more bit, as the most significant
pub value_of-push : (bits : List Bool) (b : Bool) → value_of (bits ++ b ∷ []) ≡ value_of bits + bit_value b * 2 ^ length bits
value_of-push [] b = omega arith
value_of-push (x ∷ bits) true = omega (arith, value_of-push bits true, pow-suc 2 (length bits))
value_of-push (x ∷ bits) false = omega (arith, value_of-push bits false)

-- as many bits that write the same number are the same
pub same_bits : (xs ys : List Bool) → length xs ≡ length ys → value_of xs ≡ value_of ys → xs ≡ ys
same_bits [] [] long same = refl
same_bits [] (y ∷ ys) long same = absurd (omega arith)
same_bits (x ∷ xs) [] long same = absurd (omega arith)
same_bits (x ∷ xs) (y ∷ ys) long same =
    let head : x ≡ y = same_bit x y (omega (arith, bit_value_le x, bit_value_le y)) in
    let rest : xs ≡ ys = same_bits xs ys (omega arith) (omega (arith, bit_value_le x, bit_value_le y)) in
    cc
