-- Low bits of numbers joined, cut and read.
use Rattle.std.proofs.Common.{◌≡◌, ℕ, zero, suc, ◌+◌, ◌-◌, ◌*◌, ◌/◌, ◌%◌, ◌^◌, ◌<◌, ◌≤◌, Bool, true, false, eqb, List, [], ◌∷◌, ◌++◌, length, take, drop, get_or, bit_and, refl, sym, ◌∙◌, ap, arith}
use Rattle.std.proofs.lemmas.List.{take_at, drop_at}
use Rattle.std.proofs.lemmas.Nat.{shr_split, mod_below, pow_pos, mod-pow-add, shr_below, pow-add, shl_whole, one_shl, and_mask}
use Rattle.std.proofs.lemmas.Nat.Bits.{bit_at_cat_low, bit_at_cat_high}
use Rattle.std.proofs.Math.Nat.{zero-add, pow-suc, add-mul, mul_assoc, mod-eq_of_lt, mul-le-mul_right, pow-le-pow_right}
use Rattle.std.specs.List.{fold}
use Rattle.pdh_bits.specs.Bits.{bit, bits_of_byte, bit_value, with_bit, number_of}
use Rattle.pdh_bits.proofs.NumberLemmas.{number_of_lt}
use Rattle.pdh_packed.specs.Words.{low_bits}

pub low_bits_none : (n : ℕ) → low_bits 0 n ≡ []
unfolding low_bits
low_bits_none n = refl

pub low_bits_more : (k n : ℕ) → low_bits (suc k) n ≡ bit n k ∷ low_bits k n
unfolding low_bits
low_bits_more k n = refl

pub low_bits_byte : (n : ℕ) → low_bits 8 n ≡ bits_of_byte n
unfolding low_bits
low_bits_byte n = refl

pub length-low_bits : (k n : ℕ) → length (low_bits k n) ≡ k
unfolding low_bits
length-low_bits zero n = refl
length-low_bits (suc k) n = ap suc (length-low_bits k n)

-- higher bits change nothing
pub low_bits-above : (k m a b : ℕ) → k ≤ m → low_bits k (a * 2 ^ m + b) ≡ low_bits k b
unfolding low_bits
low_bits-above zero m a b within = refl
low_bits-above (suc k) m a b within =
    let first : bit (a * 2 ^ m + b) k ≡ bit b k = ap (λ (v : ℕ). eqb v 1) (bit_at_cat_low a m b k (omega arith)) in
    let rest : low_bits k (a * 2 ^ m + b) ≡ low_bits k b = low_bits-above k m a b (omega arith) in
    cc

-- a number that is shifted and added to
pub low_bits-join : (k m a b : ℕ) → b < 2 ^ m → low_bits (k + m) (a * 2 ^ m + b) ≡ low_bits k a ++ low_bits m b
unfolding low_bits
low_bits-join zero m a b small = ap (λ (n : ℕ). low_bits n (a * 2 ^ m + b)) (zero-add m) ∙ low_bits-above m m a b (omega arith)
low_bits-join (suc k) m a b small =
    let places : suc k + m ≡ suc (k + m) = omega arith in
    let less : k + m - m ≡ k = omega arith in
    let high = bit_at_cat_high a m b (k + m) small (omega arith) in
    let first : bit (a * 2 ^ m + b) (k + m) ≡ bit a k = ap (λ (v : ℕ). eqb v 1) high ∙ ap (bit a) less in
    let rest : low_bits (k + m) (a * 2 ^ m + b) ≡ low_bits k a ++ low_bits m b = low_bits-join k m a b small in
    rw places cc

-- a number whose low bits are cut off, and those that were cut off
pub low_bits-split : (k m n : ℕ) → low_bits (k + m) n ≡ low_bits k (n / 2 ^ m) ++ low_bits m (n % 2 ^ m)
low_bits-split k m n =
    let joined = low_bits-join k m (n / 2 ^ m) (n % 2 ^ m) (mod_below n (2 ^ m) (pow_pos m)) in
    ap (low_bits (k + m)) (sym (shr_split n m)) ∙ joined

pub low_bits-mod : (m n : ℕ) → low_bits m (n % 2 ^ m) ≡ low_bits m n
low_bits-mod m n =
    sym (low_bits-above m m (n / 2 ^ m) (n % 2 ^ m) (omega arith)) ∙ ap (low_bits m) (shr_split n m)

pub take-low_bits : (k m n : ℕ) → take k (low_bits (k + m) n) ≡ low_bits k (n / 2 ^ m)
take-low_bits k m n =
    ap (take k) (low_bits-split k m n) ∙ take_at (low_bits k (n / 2 ^ m)) (low_bits m (n % 2 ^ m)) k (length-low_bits k (n / 2 ^ m))

pub drop-low_bits : (k m n : ℕ) → drop k (low_bits (k + m) n) ≡ low_bits m (n % 2 ^ m)
drop-low_bits k m n =
    ap (drop k) (low_bits-split k m n) ∙ drop_at (low_bits k (n / 2 ^ m)) (low_bits m (n % 2 ^ m)) k (length-low_bits k (n / 2 ^ m))

-- the bit at a place
pub get_or-low_bits : (i k n : ℕ) (d : Bool) → get_or (low_bits (i + suc k) n) i d ≡ bit n k
unfolding low_bits
get_or-low_bits zero k n d = rw zero-add refl
get_or-low_bits (suc i) k n d =
    let places : suc i + suc k ≡ suc (i + suc k) = omega arith in
    rw places (get_or-low_bits i k n d)

-- a bit is worth what the number has there
value_of_test : (n : ℕ) → n < 2 → bit_value (eqb n 1) ≡ n
value_of_test zero small = refl
value_of_test (suc zero) small = refl
value_of_test (suc (suc n)) small = absurd (omega arith)

bit_value-bit : (n k : ℕ) → bit_value (bit n k) ≡ n / 2 ^ k % 2
bit_value-bit n k = value_of_test (n / 2 ^ k % 2) (omega arith)

-- the sum of a step
step_sum : (a v p q r s : ℕ) → q ≡ p * 2 → s ≡ v * p + r → (2 * a + v) * p + r ≡ a * q + s
step_sum a v p q r s twice sum =
    let left : (2 * a + v) * p ≡ 2 * a * p + v * p = add-mul (2 * a) v p in
    let turned : 2 * a * p ≡ 2 * (a * p) = mul_assoc 2 a p in
    let right : a * (p * 2) ≡ a * p * 2 = sym (mul_assoc a p 2) in
    rw (twice, sum) (omega (arith, left, turned, right))

pub fold-low_bits : (k n a : ℕ) → fold with_bit a (low_bits k n) ≡ a * 2 ^ k + n % 2 ^ k
unfolding low_bits
fold-low_bits zero n a = omega arith
fold-low_bits (suc k) n a =
    let rest = fold-low_bits k n (with_bit a (bit n k)) in
    let cut : n % 2 ^ (1 + k) ≡ (n / 2 ^ k % 2 ^ 1) * 2 ^ k + n % 2 ^ k = mod-pow-add n 1 k in
    let next : 1 + k ≡ suc k = omega arith in
    let worth : bit_value (bit n k) ≡ n / 2 ^ k % 2 = bit_value-bit n k in
    let now : n % 2 ^ suc k ≡ bit_value (bit n k) * 2 ^ k + n % 2 ^ k = cc in
    rest ∙ step_sum a (bit_value (bit n k)) (2 ^ k) (2 ^ suc k) (n % 2 ^ k) (n % 2 ^ suc k) (pow-suc 2 k) now

-- low bits write their number
pub number_of-low_bits : (k n : ℕ) → n < 2 ^ k → number_of (low_bits k n) ≡ n
number_of-low_bits k n small = fold-low_bits k n 0 ∙ omega (arith, mod-eq_of_lt small)

-- what is written after a number
pub fold-number : (bits : List Bool) (a : ℕ) → fold with_bit a bits ≡ a * 2 ^ length bits + number_of bits
fold-number [] a = omega arith
fold-number (b ∷ bits) a =
    let with_a = fold-number bits (with_bit a b) in
    let alone = fold-number bits (with_bit 0 b) in
    let v : ℕ = bit_value b in
    let p : ℕ = 2 ^ length bits in
    let sum : (2 * 0 + v) * p + number_of bits ≡ v * p + number_of bits = ap (λ (x : ℕ). x * p + number_of bits) (omega arith) in
    with_a ∙ step_sum a v p (2 ^ suc (length bits)) (number_of bits) (v * p + number_of bits) (pow-suc 2 (length bits)) refl
    ∙ ap (λ (x : ℕ). a * 2 ^ suc (length bits) + x) (sym (alone ∙ sum))

bit-last : (n : ℕ) (b : Bool) → bit (with_bit n b) 0 ≡ b
bit-last n true = let odd : (2 * n + 1) / 1 % 2 ≡ 1 = omega arith in ap (λ (v : ℕ). eqb v 1) odd
bit-last n false = let even : (2 * n + 0) / 1 % 2 ≡ 0 = omega arith in ap (λ (v : ℕ). eqb v 1) even

-- the low bits of the number that bits write are these bits
pub low_bits-fold : (bits : List Bool) (a : ℕ) → low_bits (length bits) (fold with_bit a bits) ≡ bits
unfolding low_bits
low_bits-fold [] a = refl
low_bits-fold (b ∷ bits) a =
    let n : ℕ = fold with_bit (with_bit a b) bits in
    let written : n ≡ with_bit a b * 2 ^ length bits + number_of bits = fold-number bits (with_bit a b) in
    let high = bit_at_cat_high (with_bit a b) (length bits) (number_of bits) (length bits) (number_of_lt bits) (omega arith) in
    let none : length bits - length bits ≡ 0 = omega arith in
    let first : bit n (length bits) ≡ bit (with_bit a b) 0 =
    ap (λ (x : ℕ). bit x (length bits)) written ∙ ap (λ (v : ℕ). eqb v 1) high ∙ ap (bit (with_bit a b)) none in
    let last : bit (with_bit a b) 0 ≡ b = bit-last a b in
    let rest : low_bits (length bits) n ≡ bits = low_bits-fold bits (with_bit a b) in
    cc

-- in the forms of the code
pub take_low : (k w n : ℕ) → k ≤ w → take k (low_bits w n) ≡ low_bits k (n / 2 ^ (w - k))
take_low k w n within =
    let whole : k + (w - k) ≡ w = omega arith in
    ap (λ (v : ℕ). take k (low_bits v n)) (sym whole) ∙ take-low_bits k (w - k) n

pub drop_low : (k w n : ℕ) → k ≤ w → drop k (low_bits w n) ≡ low_bits (w - k) (n % 2 ^ (w - k))
drop_low k w n within =
    let whole : k + (w - k) ≡ w = omega arith in
    ap (λ (v : ℕ). drop k (low_bits v n)) (sym whole) ∙ drop-low_bits k (w - k) n

pub get_or_low : (i w n : ℕ) (d : Bool) → i < w → get_or (low_bits w n) i d ≡ bit n (w - 1 - i)
get_or_low i w n d within =
    let whole : i + suc (w - 1 - i) ≡ w = omega arith in
    ap (λ (v : ℕ). get_or (low_bits v n) i d) (sym whole) ∙ get_or-low_bits i (w - 1 - i) n d

pub first_small : (k w n : ℕ) → k ≤ w → n < 2 ^ w → n / 2 ^ (w - k) < 2 ^ k
first_small k w n within small =
    let whole : k + (w - k) ≡ w = omega arith in
    shr_below n k (w - k) (rw whole small)

pub join_small : (k m a b : ℕ) → a < 2 ^ k → b < 2 ^ m → a * 2 ^ m + b < 2 ^ (k + m)
join_small k m a b high low =
    let above : a + 1 ≤ 2 ^ k = omega arith in
    let times : (a + 1) * 2 ^ m ≤ 2 ^ k * 2 ^ m = mul-le-mul_right (2 ^ m) above in
    let more : (a + 1) * 2 ^ m ≡ a * 2 ^ m + 1 * 2 ^ m = add-mul a 1 (2 ^ m) in
    rw pow-add (omega (arith, times, more))

pub shifted : (k m a : ℕ) → a < 2 ^ k → k + m ≤ 64 → a * 2 ^ m % 2 ^ 64 ≡ a * 2 ^ m
shifted k m a small within = shl_whole a k m 64 small within

pub bit_value_le : (b : Bool) → bit_value b ≤ 1
bit_value_le true = omega arith
bit_value_le false = omega arith

bit_value_small : (b : Bool) → bit_value b < 2 ^ 1
bit_value_small true = omega arith
bit_value_small false = omega arith

low_bits_one : (b : Bool) → low_bits 1 (bit_value b) ≡ b ∷ []
unfolding low_bits
low_bits_one true = refl
low_bits_one false = refl

pub low_bits-push : (k n : ℕ) (b : Bool) → low_bits (k + 1) (2 * n + bit_value b) ≡ low_bits k n ++ b ∷ []
low_bits-push k n b =
    let small : bit_value b < 2 ^ 1 = bit_value_small b in
    let turned : 2 * n + bit_value b ≡ n * 2 ^ 1 + bit_value b = omega arith in
    let one : low_bits 1 (bit_value b) ≡ b ∷ [] = low_bits_one b in
    ap (low_bits (k + 1)) turned ∙ low_bits-join k 1 n (bit_value b) small ∙ ap (λ (bits : List Bool). low_bits k n ++ bits) one

pub powers_ordered : (i j : ℕ) → i ≤ j → 2 ^ i ≤ 2 ^ j
powers_ordered i j within = pow-le-pow_right {n = 2} (omega arith) within

pub push_small : (k n : ℕ) (b : Bool) → n < 2 ^ k → k < 64 → (2 * n + bit_value b < 2 ^ (k + 1)) × (2 * n + bit_value b < 2 ^ 64)
push_small k n b small within =
    let turned : 2 * n + bit_value b ≡ n * 2 ^ 1 + bit_value b = omega arith in
    let below : n * 2 ^ 1 + bit_value b < 2 ^ (k + 1) = join_small k 1 n (bit_value b) small (bit_value_small b) in
    let fits : 2 ^ (k + 1) ≤ 2 ^ 64 = powers_ordered (k + 1) 64 (omega arith) in
    (omega arith, omega arith)

pub ruleset word_laws = (length-low_bits, low_bits_none, low_bits_byte, take_low, drop_low, get_or_low, low_bits-push)

-- the mask of the low bits, as the code makes it
pub low_mask : (n k : ℕ) → k < 64 → bit_and n (1 * 2 ^ k % 2 ^ 64 - 1) ≡ n % 2 ^ k
low_mask n k within = ap (λ (m : ℕ). bit_and n (m - 1)) (one_shl k 64 within) ∙ and_mask n k

-- the first of the low bits as a number of their own, and the others
pub low_bits-front : (k m n : ℕ) → low_bits (k + m) n ≡ low_bits k (n / 2 ^ m % 2 ^ k) ++ low_bits m n
low_bits-front k m n =
    low_bits-split k m n ∙ ap (λ (bits : List Bool). bits ++ low_bits m (n % 2 ^ m)) (sym (low_bits-mod k (n / 2 ^ m)))
    ∙ ap (λ (bits : List Bool). low_bits k (n / 2 ^ m % 2 ^ k) ++ bits) (low_bits-mod m n)

-- a number that is shifted in a word and another that fills it, as the code adds them
pub shifted_in : (k m a b : ℕ) → k + m ≡ 64 → b < 2 ^ m → low_bits 64 ((a * 2 ^ m % 2 ^ 64 + b) % 2 ^ 64) ≡ low_bits k a ++ low_bits m b
shifted_in k m a b whole small =
    let n : ℕ = a * 2 ^ m in
    let parts : n / 2 ^ 64 * 2 ^ 64 + (n % 2 ^ 64 + b) ≡ n + b = omega arith in
    let above : low_bits 64 (n / 2 ^ 64 * 2 ^ 64 + (n % 2 ^ 64 + b)) ≡ low_bits 64 (n % 2 ^ 64 + b) = low_bits-above 64 64 (n / 2 ^ 64) (n % 2 ^ 64 + b) (omega arith) in
    low_bits-mod 64 (n % 2 ^ 64 + b) ∙ sym above ∙ ap (low_bits 64) parts ∙ ap (λ (w : ℕ). low_bits w (n + b)) (sym whole) ∙ low_bits-join k m a b small

pub top_small : (n h m : ℕ) → h + m ≡ 64 → n < 2 ^ 64 → n / 2 ^ h < 2 ^ m
top_small n h m whole small =
    let turned : m + h ≡ 64 = omega arith in
    shr_below n m h (rw turned small)

pub top_bits : (n h m : ℕ) → h + m ≡ 64 → low_bits m (n / 2 ^ h) ≡ take m (low_bits 64 n)
top_bits n h m whole =
    let turned : m + h ≡ 64 = omega arith in
    sym (ap (λ (w : ℕ). take m (low_bits w n)) (sym turned) ∙ take-low_bits m h n)

pub bottom_bits : (n h m : ℕ) → h + m ≡ 64 → low_bits h n ≡ drop m (low_bits 64 n)
bottom_bits n h m whole =
    let turned : m + h ≡ 64 = omega arith in
    sym (ap (λ (w : ℕ). drop m (low_bits w n)) (sym turned) ∙ drop-low_bits m h n ∙ low_bits-mod h n)
