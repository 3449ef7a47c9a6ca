-- The number that bits write, and the bits of a number.
use Rattle.std.proofs.Common.{◌≡◌, ℕ, zero, suc, ◌+◌, ◌*◌, ◌/◌, ◌%◌, ◌^◌, ◌<◌, ◌≤◌, Bool, true, false, eqb, List, [], ◌∷◌, length, take, refl, sym, ◌∙◌, ap, arith, length-take}
use Rattle.std.proofs.lemmas.Nat.{shr-shr}
use Rattle.std.proofs.Math.Nat.{pow-suc, add-zero, zero-add, mul-le-mul_right, pow-le-pow_right}
use Rattle.std.specs.List.{fold}
use Rattle.pdh_bits.specs.Bits.{bit, bits_of_byte, bit_value, with_bit, number_of}

-- a bit is worth at most 1
bit_value_le : (b : Bool) → bit_value b ≤ 1
bit_value_le true = omega arith
bit_value_le false = omega arith

-- from a bound on what follows a number's double with a bit to one on what follows the number
doubled_lt : (n v p q f : ℕ) → v ≤ 1 → q ≡ p * 2 → f < (2 * n + v + 1) * p → f < (n + 1) * q
doubled_lt n v p q f one twice below =
    let wider : 2 * n + v + 1 ≤ 2 * n + 2 = omega arith in
    rw twice (omega (arith, mul-le-mul_right p wider))

-- a number with so many bits written after it
with_bits_lt : (n : ℕ) (bits : List Bool) → fold with_bit n bits < (n + 1) * 2 ^ length bits
with_bits_lt n [] = omega arith
with_bits_lt n (b ∷ bits) =
    doubled_lt n (bit_value b) (2 ^ length bits) (2 ^ suc (length bits)) _ (bit_value_le b) (pow-suc 2 (length bits)) (with_bits_lt (with_bit n b) bits)

-- so many bits write a number below that power of two
pub number_of_lt : (bits : List Bool) → number_of bits < 2 ^ length bits
number_of_lt bits = omega (arith, with_bits_lt 0 bits)

-- fewer than eight first bits write a number that has room for one more in a byte
pub number_of-take_lt : (i : ℕ) (bits : List Bool) → i < 8 → number_of (take i bits) < 128
number_of-take_lt i bits few =
    let short : length (take i bits) ≤ 7 = omega (arith, length-take i bits) in
    omega (arith, number_of_lt (take i bits), pow-le-pow_right {n = 2} (omega arith) short)

-- a number below 2 is what the test for 1 is worth
value_of_test : (n : ℕ) → n < 2 → bit_value (eqb n 1) ≡ n
value_of_test zero small = refl
value_of_test (suc zero) small = refl
value_of_test (suc (suc n)) small = absurd (omega arith)

-- what a bit of a number is worth
bit_value-bit : (n k : ℕ) → bit_value (bit n k) ≡ n / 2 ^ k % 2
bit_value-bit n k = value_of_test (n / 2 ^ k % 2) (omega arith)

-- the bits of a byte write it
pub number_of-bits_of_byte : (byte : ℕ) → byte < 256 → number_of (bits_of_byte byte) ≡ byte
number_of-bits_of_byte byte small =
    omega (arith, bit_value-bit byte 7, bit_value-bit byte 6, bit_value-bit byte 5, bit_value-bit byte 4, bit_value-bit byte 3, bit_value-bit byte 2, bit_value-bit byte 1, bit_value-bit byte 0)

-- bit 0 is the bit that was written last
bit-last : (n : ℕ) (b : Bool) → bit (with_bit n b) 0 ≡ b
bit-last n true = let odd : (2 * n + 1) / 1 % 2 ≡ 1 = omega arith in ap (λ (v : ℕ). eqb v 1) odd
bit-last n false = let even : (2 * n + 0) / 1 % 2 ≡ 0 = omega arith in ap (λ (v : ℕ). eqb v 1) even

-- the bits before it have moved up by one
bit-before : (n k : ℕ) (b : Bool) → bit (with_bit n b) (suc k) ≡ bit n k
bit-before n k b =
    let half : with_bit n b / 2 ^ 1 ≡ n = omega (arith, bit_value_le b) in
    let twice : with_bit n b / 2 ^ 1 / 2 ^ k ≡ with_bit n b / 2 ^ (1 + k) = shr-shr (with_bit n b) 1 k in
    let next : 1 + k ≡ suc k = omega arith in
    let moved : with_bit n b / 2 ^ suc k ≡ n / 2 ^ k = cc in
    ap (λ (v : ℕ). eqb (v % 2) 1) moved

-- the same after any number of bits
bit-fold : (bits : List Bool) (n k : ℕ) → bit (fold with_bit n bits) (length bits + k) ≡ bit n k
bit-fold [] n k = ap (bit n) (zero-add k)
bit-fold (b ∷ bits) n k =
    let written : ℕ = fold with_bit (with_bit n b) bits in
    let place : suc (length bits) + k ≡ length bits + suc k = omega arith in
    ap (bit written) place ∙ bit-fold bits (with_bit n b) (suc k) ∙ bit-before n k b

-- the bit that is written between others
bit-at : (n : ℕ) (b : Bool) (bits : List Bool) → bit (fold with_bit n (b ∷ bits)) (length bits) ≡ b
bit-at n b bits =
    ap (bit (fold with_bit n (b ∷ bits))) (sym (add-zero (length bits))) ∙ bit-fold bits (with_bit n b) 0 ∙ bit-last n b

-- the eight bits of the byte that eight bits write are these bits
pub bits_of_byte-number_of : (b7 b6 b5 b4 b3 b2 b1 b0 : Bool) → bits_of_byte (number_of (b7 ∷ b6 ∷ b5 ∷ b4 ∷ b3 ∷ b2 ∷ b1 ∷ b0 ∷ [])) ≡ b7 ∷ b6 ∷ b5 ∷ b4 ∷ b3 ∷ b2 ∷ b1 ∷ b0 ∷ []
bits_of_byte-number_of b7 b6 b5 b4 b3 b2 b1 b0 =
    let n7 : ℕ = with_bit 0 b7 in
    let n6 : ℕ = with_bit n7 b6 in
    let n5 : ℕ = with_bit n6 b5 in
    let n4 : ℕ = with_bit n5 b4 in
    let n3 : ℕ = with_bit n4 b3 in
    let n2 : ℕ = with_bit n3 b2 in
    let n1 : ℕ = with_bit n2 b1 in
    let n0 : ℕ = with_bit n1 b0 in
    let is7 : bit n0 7 ≡ b7 = bit-at 0 b7 (b6 ∷ b5 ∷ b4 ∷ b3 ∷ b2 ∷ b1 ∷ b0 ∷ []) in
    let is6 : bit n0 6 ≡ b6 = bit-at n7 b6 (b5 ∷ b4 ∷ b3 ∷ b2 ∷ b1 ∷ b0 ∷ []) in
    let is5 : bit n0 5 ≡ b5 = bit-at n6 b5 (b4 ∷ b3 ∷ b2 ∷ b1 ∷ b0 ∷ []) in
    let is4 : bit n0 4 ≡ b4 = bit-at n5 b4 (b3 ∷ b2 ∷ b1 ∷ b0 ∷ []) in
    let is3 : bit n0 3 ≡ b3 = bit-at n4 b3 (b2 ∷ b1 ∷ b0 ∷ []) in
    let is2 : bit n0 2 ≡ b2 = bit-at n3 b2 (b1 ∷ b0 ∷ []) in
    let is1 : bit n0 1 ≡ b1 = bit-at n2 b1 (b0 ∷ []) in
    let is0 : bit n0 0 ≡ b0 = bit-at n1 b0 [] in
    cc
