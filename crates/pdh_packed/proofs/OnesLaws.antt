-- How many of the bits of a number are 1.
use Rattle.std.proofs.Common.{◌≡◌, ℕ, zero, suc, ◌+◌, ◌*◌, ◌/◌, ◌%◌, ◌^◌, ◌<◌, Bool, List, ◌++◌, take, drop, cond, count_by, refl, sym, ◌∙◌, ap, arith}
use Rattle.std.specs.Int.Count.{ones}
use Rattle.std.proofs.lemmas.Nat.{ones_cat, shr_below}
use Rattle.std.proofs.lemmas.List.Sums.{sum_by-append}
use Rattle.pdh_packed.specs.Words.{low_bits}
use Rattle.pdh_packed.specs.WordLaws.{low_bits-split}
use Rattle.pdh_packed.proofs.PackedLaws.{two_parts}

abbrev pub ones_of : List Bool → ℕ
ones_of bits = count_by (λ bit. bit) bits

ones_of_bit : (b : ℕ) → b < 2 → ones_of (low_bits 1 b) ≡ ones b
unfolding low_bits ones
ones_of_bit zero small = refl
ones_of_bit (suc zero) small = refl
ones_of_bit (suc (suc b)) small = absurd (omega arith)

-- those of a number's low bits, where it has no higher ones
pub ones_of_low : (k n : ℕ) → n < 2 ^ k → ones_of (low_bits k n) ≡ ones n
unfolding low_bits ones
ones_of_low zero n small = let none : n ≡ 0 = omega arith in rw none refl
ones_of_low (suc k) n small =
    let place : suc k ≡ k + 1 = omega arith in
    let half : n / 2 ^ 1 < 2 ^ k = shr_below n k 1 (rw (sym place) small) in
    let last : n % 2 ^ 1 < 2 = omega arith in
    let cut : low_bits (k + 1) n ≡ low_bits k (n / 2 ^ 1) ++ low_bits 1 (n % 2 ^ 1) = low_bits-split k 1 n in
    let whole : n ≡ n / 2 ^ 1 * 2 ^ 1 + n % 2 ^ 1 = omega arith in
    ap (λ (m : ℕ). ones_of (low_bits m n)) place ∙ ap ones_of cut
    ∙ sum_by-append (λ (bit : Bool). cond bit 1 0) (low_bits k (n / 2 ^ 1)) (low_bits 1 (n % 2 ^ 1))
    ∙ omega (arith, ones_of_low k (n / 2 ^ 1) half, ones_of_bit (n % 2 ^ 1) last, ones_cat 1 (n / 2 ^ 1) (n % 2 ^ 1) last)
    ∙ ap ones (sym whole)

-- more of the bits
pub ones_more : (bits : List Bool) (place done count n : ℕ) → n ≡ ones_of (take count (drop (place + done) bits)) → ones_of (take (done + count) (drop place bits)) ≡ ones_of (take done (drop place bits)) + n
ones_more bits place done count n more =
    ap ones_of (sym (two_parts bits done count place)) ∙ sum_by-append (λ (bit : Bool). cond bit 1 0) (take done (drop place bits)) (take count (drop (place + done) bits))
    ∙ ap (λ (m : ℕ). ones_of (take done (drop place bits)) + m) (sym more)
