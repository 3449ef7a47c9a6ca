-- Operations on words bit by bit, in the forms of the code.
use Rattle.std.proofs.Common.{◌≡◌, ℕ, zero, suc, ◌+◌, ◌-◌, ◌*◌, ◌/◌, ◌%◌, ◌^◌, ◌<◌, ◌≤◌, min, max, Bool, true, false, not, ◌&&◌, ◌||◌, cond, eqb, List, [], ◌∷◌, ◌++◌, length, map, take, drop, replicate, bit_and, bit_or, bit_xor, refl, sym, ◌∙◌, ap, subst, inl, inr, arith}
use Rattle.std.specs.Int.{w64, leading_zeros}
use Rattle.std.specs.List.{prefix_len}
use Rattle.std.proofs.lemmas.Bool.{cases_lt}
use Rattle.std.proofs.lemmas.List.{replicate-append-replicate, nil_from_length}
use Rattle.std.proofs.lemmas.Nat.{leading_length, div_below, le-div, mul-mod_first, pow-add, pow_pos, shl_whole, shl_below}
use Rattle.std.proofs.lemmas.Nat.Bits.{bit_at_and, bit_at_or, bit_at_xor, bit_at_ones, bit_at_above, bit_at-zero, ones_shr}
use Rattle.std.proofs.Math.Nat.{pow-suc, mul_assoc}
use Rattle.pdh_bits.specs.Bits.{bit}
use Rattle.pdh_packed.specs.Words.{low_bits}
use Rattle.pdh_packed.specs.WordLaws.{length-low_bits, drop_low, low_bits-mod, low_bits-join, shifted_in, top_small, top_bits, powers_ordered}
use Rattle.pdh_packed.specs.Places.{both, either, differs, differing, between_zeros}
use Rattle.pdh_packed.proofs.PackedLaws.{across_two}

-- ---- place by place

-- what holds of the bits 0 and 1 holds of all numbers below 2
bits_make : (op : ℕ → ℕ → ℕ) (f : Bool → Bool → Bool) → eqb (op 0 0) 1 ≡ f false false → eqb (op 0 1) 1 ≡ f false true → eqb (op 1 0) 1 ≡ f true false → eqb (op 1 1) 1 ≡ f true true
    → (x y : ℕ) → x < 2 → y < 2 → eqb (op x y) 1 ≡ f (eqb x 1) (eqb y 1)
bits_make op f none last first all zero zero h h' = none
bits_make op f none last first all zero (suc zero) h h' = last
bits_make op f none last first all (suc zero) zero h h' = first
bits_make op f none last first all (suc zero) (suc zero) h h' = all
bits_make op f none last first all (suc (suc x)) y h h' = absurd (omega arith)
bits_make op f none last first all zero (suc (suc y)) h h' = absurd (omega arith)
bits_make op f none last first all (suc zero) (suc (suc y)) h h' = absurd (omega arith)

bit-and : (a b k : ℕ) → bit (bit_and a b) k ≡ (bit a k && bit b k)
bit-and a b k = ap (λ (v : ℕ). eqb v 1) (bit_at_and a b k) ∙ bits_make min (λ x y. x && y) refl refl refl refl (a / 2 ^ k % 2) (b / 2 ^ k % 2) (omega arith) (omega arith)

bit-or : (a b k : ℕ) → bit (bit_or a b) k ≡ (bit a k || bit b k)
bit-or a b k = ap (λ (v : ℕ). eqb v 1) (bit_at_or a b k) ∙ bits_make max (λ x y. x || y) refl refl refl refl (a / 2 ^ k % 2) (b / 2 ^ k % 2) (omega arith) (omega arith)

bit-xor : (a b k : ℕ) → bit (bit_xor a b) k ≡ differs (bit a k) (bit b k)
bit-xor a b k = ap (λ (v : ℕ). eqb v 1) (bit_at_xor a b k) ∙ bits_make (λ x y. (x + y) % 2) differs refl refl refl refl (a / 2 ^ k % 2) (b / 2 ^ k % 2) (omega arith) (omega arith)

pub low_bits-and : (k a b : ℕ) → low_bits k (bit_and a b) ≡ both (low_bits k a) (low_bits k b)
unfolding low_bits
low_bits-and zero a b = refl
low_bits-and (suc k) a b =
    ap (λ (x : Bool). x ∷ low_bits k (bit_and a b)) (bit-and a b k) ∙ ap (λ (x : List Bool). (bit a k && bit b k) ∷ x) (low_bits-and k a b)

pub low_bits-or : (k a b : ℕ) → low_bits k (bit_or a b) ≡ either (low_bits k a) (low_bits k b)
unfolding low_bits
low_bits-or zero a b = refl
low_bits-or (suc k) a b =
    ap (λ (x : Bool). x ∷ low_bits k (bit_or a b)) (bit-or a b k) ∙ ap (λ (x : List Bool). (bit a k || bit b k) ∷ x) (low_bits-or k a b)

pub low_bits-xor : (k a b : ℕ) → low_bits k (bit_xor a b) ≡ differing (low_bits k a) (low_bits k b)
unfolding low_bits
low_bits-xor zero a b = refl
low_bits-xor (suc k) a b =
    ap (λ (x : Bool). x ∷ low_bits k (bit_xor a b)) (bit-xor a b k) ∙ ap (λ (x : List Bool). differs (bit a k) (bit b k) ∷ x) (low_bits-xor k a b)

-- a law of each place, of the numbers that two words of one length write
pub words_make : (op : ℕ → ℕ → ℕ) (f : List Bool → List Bool → List Bool) → ((k a b : ℕ) → low_bits k (op a b) ≡ f (low_bits k a) (low_bits k b))
    → (xs ys made : List Bool) (k n m : ℕ) → made ≡ low_bits k (op n m) → k ≡ length xs → length xs ≡ length ys → low_bits (length xs) n ≡ xs → low_bits (length ys) m ≡ ys → made ≡ f xs ys
words_make op f law xs ys made k n m is count alike first second =
    is ∙ ap (λ (j : ℕ). low_bits j (op n m)) count ∙ law (length xs) n m ∙ ap (λ (x : List Bool). f x (low_bits (length xs) m)) first ∙ ap (f xs) (ap (λ (j : ℕ). low_bits j m) alike ∙ second)

-- and a bound of them
pub words_small : (op : ℕ → ℕ → ℕ) → ((k a b : ℕ) → a < 2 ^ k → b < 2 ^ k → op a b < 2 ^ k) → (j k l n m : ℕ) → j ≡ k → k ≡ l → n < 2 ^ k → m < 2 ^ l → op n m < 2 ^ j
words_small op law j k l n m count alike first second =
    subst (λ (i : ℕ). op n m < 2 ^ i) (sym count) (law k n m first (subst (λ (i : ℕ). m < 2 ^ i) (sym alike) second))

-- bits that differ from ones are the other bits
pub differing-ones : (xs : List Bool) → differing xs (replicate (length xs) true) ≡ map not xs
differing-ones [] = refl
differing-ones (true ∷ xs) = ap (λ (x : List Bool). false ∷ x) (differing-ones xs)
differing-ones (false ∷ xs) = ap (λ (x : List Bool). true ∷ x) (differing-ones xs)

-- ---- copies of a bit

pub low_bits-zero : (k : ℕ) → low_bits k 0 ≡ replicate k false
unfolding low_bits
low_bits-zero zero = refl
low_bits-zero (suc k) =
    ap (λ (x : Bool). x ∷ low_bits k 0) (ap (λ (v : ℕ). eqb v 1) (bit_at-zero k)) ∙ ap (λ (x : List Bool). false ∷ x) (low_bits-zero k)

all_set : (k n : ℕ) → ((i : ℕ) → i < k → bit n i ≡ true) → low_bits k n ≡ replicate k true
unfolding low_bits
all_set zero n set = refl
all_set (suc k) n set =
    ap (λ (x : Bool). x ∷ low_bits k n) (set k (omega arith)) ∙ ap (λ (x : List Bool). true ∷ x) (all_set k n (λ i h. set i (omega arith)))

-- the ones of a whole number that is shifted to the right
pub low_bits-ones : (k : ℕ) → k ≤ 64 → low_bits k ((2 ^ 64 - 1) / 2 ^ (64 - k)) ≡ replicate k true
low_bits-ones k few =
    let cut : (2 ^ 64 - 1) / 2 ^ (64 - k) ≡ 2 ^ (64 - (64 - k)) - 1 = ones_shr 64 (64 - k) (omega arith) in
    let back : 64 - (64 - k) ≡ k = omega arith in
    ap (low_bits k) (cut ∙ ap (λ (n : ℕ). 2 ^ n - 1) back) ∙ all_set k (2 ^ k - 1) (λ i h. ap (λ (v : ℕ). eqb v 1) (bit_at_ones k i h))

pub ones_small : (k : ℕ) → k ≤ 64 → (2 ^ 64 - 1) / 2 ^ (64 - k) < 2 ^ k
ones_small k few =
    let cut : (2 ^ 64 - 1) / 2 ^ (64 - k) ≡ 2 ^ (64 - (64 - k)) - 1 = ones_shr 64 (64 - k) (omega arith) in
    let back : 2 ^ (64 - (64 - k)) - 1 ≡ 2 ^ k - 1 = ap (λ (n : ℕ). 2 ^ n - 1) (omega arith) in
    let some : 1 ≤ 2 ^ k = powers_ordered 0 k (omega arith) in
    omega (arith, cut, back, some)

-- ---- the zeros before the first 1

clear_above : (n m k : ℕ) → n < 2 ^ m → m ≤ k → bit n k ≡ false
clear_above n m k small above = ap (λ (v : ℕ). eqb v 1) (bit_at_above n m k small above)

top_set : (n j : ℕ) → n < 2 ^ suc j → 2 ^ suc j ≤ 2 * n + 1 → bit n j ≡ true
top_set n j small large =
    let twice : 2 ^ suc j ≡ 2 ^ j * 2 = pow-suc 2 j in
    let some : 1 ≤ 2 ^ j = powers_ordered 0 j (omega arith) in
    let one : n / 2 ^ j ≡ 1 = div_one n (2 ^ j) (omega (arith, twice, large, some)) (omega (arith, twice, small)) in
    ap (λ (v : ℕ). eqb (v % 2) 1) one
  where
    div_one : (n p : ℕ) → p ≤ n → n < 2 * p → n / p ≡ 1
    div_one n p h h' =
        let some : 0 < p = omega arith in
        let high : n / p < 2 = div_below n p 2 some h' in
        let low : 1 ≤ n / p = le-div 1 n p some (omega arith) in
        omega arith

zeros_above : (z m n : ℕ) → n < 2 ^ m → prefix_len not (low_bits (z + m) n) ≡ z + prefix_len not (low_bits m n)
unfolding low_bits
zeros_above zero m n small =
    let none : 0 + m ≡ m = omega arith in
    ap (λ (k : ℕ). prefix_len not (low_bits k n)) none ∙ omega arith
zeros_above (suc z) m n small =
    let places : suc z + m ≡ suc (z + m) = omega arith in
    let clear : bit n (z + m) ≡ false = clear_above n m (z + m) small (omega arith) in
    ap (λ (k : ℕ). prefix_len not (low_bits k n)) places
    ∙ ap (λ (b : Bool). cond (not b) (1 + prefix_len not (low_bits (z + m) n)) 0) clear
    ∙ omega (arith, zeros_above z m n small)

stops_at : (m n : ℕ) → n < 2 ^ m → 2 ^ m ≤ 2 * n + 1 → prefix_len not (low_bits m n) ≡ 0
unfolding low_bits
stops_at zero n small large = refl
stops_at (suc j) n small large = ap (λ (b : Bool). cond (not b) (1 + prefix_len not (low_bits j n)) 0) (top_set n j small large)

pub leading_count : (c n : ℕ) → c ≤ 64 → n < 2 ^ c → n < 2 ^ 64 → (64 - c ≤ leading_zeros w64 n) × (prefix_len not (low_bits c n) ≡ leading_zeros w64 n - (64 - c))
leading_count c n few small fits =
    let (m, whole, below, above) = leading_length 64 n fits in
    let within : m ≤ c = elim (cases_lt c m) [
      | inl past ↦ let more : 2 ^ suc c ≤ 2 ^ m = powers_ordered (suc c) m past in absurd (omega (arith, more, pow-suc 2 c, above, small))
      | inr not_past ↦ not_past
    ] in
    let parts : (c - m) + m ≡ c = omega (arith, within) in
    let count : prefix_len not (low_bits c n) ≡ (c - m) + prefix_len not (low_bits m n) =
    ap (λ (k : ℕ). prefix_len not (low_bits k n)) (sym parts) ∙ zeros_above (c - m) m n below in
    (omega (arith, whole, within), omega (arith, count, stops_at m n below above, whole, within, few))

-- ---- bits that move

-- the bits of a word from a place on and those of the next, as the code adds their numbers
pub slid : (front next : List Bool) (f n left place : ℕ) → length front < 64 → place + left ≡ length front → n < 2 ^ 64 → low_bits (length front) f ≡ front → low_bits 64 n ≡ next
    → low_bits 64 ((f * 2 ^ 1 % 2 ^ 64 * 2 ^ (63 - left) % 2 ^ 64 + n / 2 ^ left) % 2 ^ 64) ≡ take 64 (drop place (front ++ next))
slid front next f n left place few parts fits is_front is_next =
    let rest : ℕ = 64 - left in
    let whole : left + rest ≡ 64 = omega (arith, few, parts) in
    let steps : 1 + (63 - left) ≡ rest = omega (arith, few, parts) in
    let twice : f * 2 ^ 1 * 2 ^ (63 - left) ≡ f * 2 ^ rest =
    mul_assoc f (2 ^ 1) (2 ^ (63 - left)) ∙ ap (λ (p : ℕ). f * p) (sym (pow-add 2 1 (63 - left)) ∙ ap (λ (k : ℕ). 2 ^ k) steps) in
    let shifted : f * 2 ^ 1 % 2 ^ 64 * 2 ^ (63 - left) % 2 ^ 64 ≡ f * 2 ^ rest % 2 ^ 64 =
    mul-mod_first (f * 2 ^ 1) (2 ^ (63 - left)) (2 ^ 64) ∙ ap (λ (p : ℕ). p % 2 ^ 64) twice in
    let joined : low_bits 64 ((f * 2 ^ rest % 2 ^ 64 + n / 2 ^ left) % 2 ^ 64) ≡ low_bits left f ++ low_bits rest (n / 2 ^ left) =
    shifted_in left rest f (n / 2 ^ left) whole (top_small n left rest whole fits) in
    let left_is : length front - place ≡ left = omega (arith, parts) in
    let kept : low_bits left f ≡ drop place front =
    sym (low_bits-mod left f) ∙ ap (λ (k : ℕ). low_bits k (f % 2 ^ k)) (sym left_is) ∙ sym (drop_low place (length front) f (omega (arith, parts))) ∙ ap (drop place) is_front in
    let long : length (low_bits left f) ≡ left = length-low_bits left f in
    let more : low_bits rest (n / 2 ^ left) ≡ take (64 - length (low_bits left f)) next =
    top_bits n left rest whole ∙ ap (take rest) is_next ∙ ap (λ (k : ℕ). take (64 - k) next) (sym long) in
    ap (λ (p : ℕ). low_bits 64 ((p + n / 2 ^ left) % 2 ^ 64)) shifted ∙ joined
    ∙ across_two front next (low_bits left f) (low_bits rest (n / 2 ^ left)) place 64 (omega (arith, parts)) kept (omega (arith, long, few, parts)) more

-- bits that are shifted within a word of 64
pub placed_bits : (bits : List Bool) (n place behind : ℕ) → place + (length bits + behind) ≡ 64 → n < 2 ^ length bits → low_bits (length bits) n ≡ bits → low_bits 64 (n * 2 ^ behind % 2 ^ 64) ≡ between_zeros place bits behind
placed_bits bits n place behind whole small is =
    let count : ℕ = length bits in
    let fits : n * 2 ^ behind % 2 ^ 64 ≡ n * 2 ^ behind = shl_whole n count behind 64 small (omega (arith, whole)) in
    let below : n * 2 ^ behind < 2 ^ (count + behind) = shl_below n count behind small in
    let none : n * 2 ^ behind ≡ 0 * 2 ^ (count + behind) + n * 2 ^ behind = omega arith in
    let last : n * 2 ^ behind ≡ n * 2 ^ behind + 0 = omega arith in
    let some : 0 < 2 ^ behind = pow_pos behind in
    ap (low_bits 64) (fits ∙ none) ∙ ap (λ (k : ℕ). low_bits k (0 * 2 ^ (count + behind) + n * 2 ^ behind)) (sym whole)
    ∙ low_bits-join place (count + behind) 0 (n * 2 ^ behind) below ∙ ap (λ (x : List Bool). x ++ low_bits (count + behind) (n * 2 ^ behind)) (low_bits-zero place)
    ∙ ap (λ (x : List Bool). replicate place false ++ x) (ap (low_bits (count + behind)) last ∙ low_bits-join count behind n 0 some ∙ ap (λ (x : List Bool). x ++ low_bits behind 0) is ∙ ap (λ (x : List Bool). bits ++ x) (low_bits-zero behind))

-- no bits are placed
pub placed_none : (bits : List Bool) (place behind : ℕ) → length bits ≡ 0 → place + behind ≡ 64 → replicate 64 false ≡ between_zeros place bits behind
placed_none bits place behind none whole =
    ap (λ (k : ℕ). replicate k false) (sym whole) ∙ sym (replicate-append-replicate place behind false)
    ∙ ap (λ (x : List Bool). replicate place false ++ (x ++ replicate behind false)) (sym (nil_from_length bits none))
