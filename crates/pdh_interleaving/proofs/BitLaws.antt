-- The bit at a place of a number that is made of others.
use Rattle.std.proofs.Common.{◌≡◌, ℕ, suc, ◌+◌, ◌-◌, ◌*◌, ◌/◌, ◌%◌, ◌^◌, ◌<◌, ◌≤◌, Bool, false, ◌&&◌, eqb, List, get_or, bit_and, bit_xor, ◌∙◌, ap, arith}
use Rattle.std.proofs.lemmas.Nat.{shr-shr, pow_pos}
use Rattle.std.proofs.lemmas.Nat.Bits.{bit_at_cat_low, bit_at_cat_high, bit_at-zero}
use Rattle.pdh_bits.specs.Bits.{bit}
use Rattle.pdh_packed.specs.Places.{differs}
use Rattle.pdh_packed.specs.Words.{low_bits}
use Rattle.pdh_packed.proofs.BitwiseLaws.{low_bits-and, low_bits-xor}

pub bit-and : (a b k : ℕ) → bit (bit_and a b) k ≡ (bit a k && bit b k)
unfolding low_bits
bit-and a b k = ap (λ (bits : List Bool). get_or bits 0 false) (low_bits-and (suc k) a b)

pub bit-xor : (a b k : ℕ) → bit (bit_xor a b) k ≡ differs (bit a k) (bit b k)
unfolding low_bits
bit-xor a b k = ap (λ (bits : List Bool). get_or bits 0 false) (low_bits-xor (suc k) a b)

pub bit-shr : (n s k : ℕ) → bit (n / 2 ^ s) k ≡ bit n (k + s)
bit-shr n s k =
    let turned : s + k ≡ k + s = omega arith in
    ap (λ (v : ℕ). eqb (v % 2) 1) (shr-shr n s k) ∙ ap (bit n) turned

pub bit-shl_low : (n s k : ℕ) → k < s → bit (n * 2 ^ s) k ≡ false
bit-shl_low n s k low =
    let whole : n * 2 ^ s ≡ n * 2 ^ s + 0 = omega arith in
    ap (λ (v : ℕ). bit v k) whole ∙ ap (λ (v : ℕ). eqb v 1) (bit_at_cat_low n s 0 k low ∙ bit_at-zero k)

pub bit-shl_high : (n s k : ℕ) → s ≤ k → bit (n * 2 ^ s) k ≡ bit n (k - s)
bit-shl_high n s k high =
    let whole : n * 2 ^ s ≡ n * 2 ^ s + 0 = omega arith in
    ap (λ (v : ℕ). bit v k) whole ∙ ap (λ (v : ℕ). eqb v 1) (bit_at_cat_high n s 0 k (pow_pos s) high)
