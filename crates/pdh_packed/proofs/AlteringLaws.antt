-- Bits inverted, or set to one value.
use Rattle.std.proofs.Common.{◌≡◌, ℕ, zero, suc, ◌+◌, ◌-◌, ◌*◌, ◌/◌, ◌%◌, ◌^◌, ◌<◌, Bool, not, List, [], ◌∷◌, ◌++◌, map, take, drop, append_assoc, get_or, replicate, refl, sym, ◌∙◌, ap, arith}
use Rattle.std.proofs.lemmas.List.{map-append}
use Rattle.std.proofs.lemmas.Nat.{shr_split, mod_below, pow_pos}
use Rattle.std.proofs.lemmas.Simd.{splat_is_map}
use Rattle.std.proofs.Math.Nat.{pow-suc}
use Rattle.pdh_bits.specs.Bits.{bit}
use Rattle.pdh_packed.specs.Words.{low_bits, bits_of_words}
use Rattle.pdh_packed.specs.WordLaws.{low_bits-split, length-low_bits}
use Rattle.pdh_packed.proofs.PackedLaws.{two_parts}

-- the parts of two numbers that make all ones together
parts : (p q q' r r' : ℕ) → r < p → r' < p → q * p + r + (q' * p + r') + 1 ≡ 2 * p → (q + q' ≡ 1) × (r + r' + 1 ≡ p)
parts p zero zero r r' small small' sum = absurd (omega arith)
parts p zero (suc zero) r r' small small' sum = (omega arith, omega arith)
parts p zero (suc (suc q')) r r' small small' sum = absurd (omega arith)
parts p (suc zero) zero r r' small small' sum = (omega arith, omega arith)
parts p (suc zero) (suc q') r r' small small' sum = absurd (omega arith)
parts p (suc (suc q)) q' r r' small small' sum = absurd (omega arith)

one_inverted : (q q' : ℕ) → q + q' ≡ 1 → low_bits 1 q' ≡ map not (low_bits 1 q)
unfolding low_bits
one_inverted zero zero sum = absurd (omega arith)
one_inverted zero (suc zero) sum = refl
one_inverted zero (suc (suc q')) sum = absurd (omega arith)
one_inverted (suc zero) zero sum = refl
one_inverted (suc zero) (suc q') sum = absurd (omega arith)
one_inverted (suc (suc q)) q' sum = absurd (omega arith)

-- two numbers that make all ones together
pub low_bits-inverted : (k n m : ℕ) → n + m + 1 ≡ 2 ^ k → low_bits k m ≡ map not (low_bits k n)
unfolding low_bits
low_bits-inverted zero n m sum = refl
low_bits-inverted (suc k) n m sum =
    let p : ℕ = 2 ^ k in
    let place : suc k ≡ 1 + k = omega arith in
    let twice : 2 ^ suc k ≡ 2 ^ k * 2 = pow-suc 2 k in
    let halves = parts p (n / p) (m / p) (n % p) (m % p) (mod_below n p (pow_pos k)) (mod_below m p (pow_pos k)) (omega (arith, shr_split n k, shr_split m k, twice)) in
    ap (λ (w : ℕ). low_bits w m) place ∙ low_bits-split 1 k m
    ∙ ap (λ (bits : List Bool). bits ++ low_bits k (m % p)) (one_inverted (n / p) (m / p) halves.0)
    ∙ ap (λ (bits : List Bool). map not (low_bits 1 (n / p)) ++ bits) (low_bits-inverted k (n % p) (m % p) halves.1)
    ∙ sym (map-append not (low_bits 1 (n / p)) (low_bits k (n % p))) ∙ ap (map not) (sym (low_bits-split 1 k n) ∙ ap (λ (w : ℕ). low_bits w n) (sym place))

-- words of 64 whose bits are inverted
pub bits_of_words-inverted : (words : List ℕ) → ((k : ℕ) → get_or words k 0 < 2 ^ 64) → bits_of_words (map (λ word. 2 ^ 64 - 1 - word) words) ≡ map not (bits_of_words words)
unfolding bits_of_words
bits_of_words-inverted [] small = refl
bits_of_words-inverted (x ∷ xs) small =
    let first : low_bits 64 (2 ^ 64 - 1 - x) ≡ map not (low_bits 64 x) = low_bits-inverted 64 x (2 ^ 64 - 1 - x) (omega (arith, small 0)) in
    let rest : bits_of_words (map (λ word. 2 ^ 64 - 1 - word) xs) ≡ map not (bits_of_words xs) = bits_of_words-inverted xs (λ k. small (suc k)) in
    ap (λ (bits : List Bool). bits ++ bits_of_words (map (λ word. 2 ^ 64 - 1 - word) xs)) first
    ∙ ap (λ (bits : List Bool). map not (low_bits 64 x) ++ bits) rest ∙ sym (map-append not (low_bits 64 x) (bits_of_words xs))

-- words of 64 that are set to one value
pub bits_of_words-same : (words : List ℕ) (bit : Bool) (number : ℕ) → low_bits 64 number ≡ replicate 64 bit → bits_of_words (map (λ word. number) words) ≡ map (λ old. bit) (bits_of_words words)
unfolding bits_of_words
bits_of_words-same [] bit number is = refl
bits_of_words-same (x ∷ xs) bit number is =
    let first : low_bits 64 number ≡ map (λ old. bit) (low_bits 64 x) = is ∙ splat_is_map (low_bits 64 x) 64 bit (length-low_bits 64 x) in
    let rest : bits_of_words (map (λ word. number) xs) ≡ map (λ old. bit) (bits_of_words xs) = bits_of_words-same xs bit number is in
    ap (λ (bits : List Bool). bits ++ bits_of_words (map (λ word. number) xs)) first
    ∙ ap (λ (bits : List Bool). map (λ old. bit) (low_bits 64 x) ++ bits) rest ∙ sym (map-append (λ old. bit) (low_bits 64 x) (bits_of_words xs))

-- some bits inverted after those that came before
pub inverted_more : (mine bits word : List Bool) (place done count : ℕ) → word ≡ map not (take count (drop (place + done) bits)) → mine ++ map not (take (done + count) (drop place bits)) ≡ (mine ++ map not (take done (drop place bits))) ++ word
inverted_more mine bits word place done count read =
    let first : List Bool = take done (drop place bits) in
    let next : List Bool = take count (drop (place + done) bits) in
    ap (λ l. mine ++ map not l) (sym (two_parts bits done count place)) ∙ ap (λ l. mine ++ l) (map-append not first next)
    ∙ ap (λ l. mine ++ (map not first ++ l)) (sym read) ∙ sym (append_assoc mine (map not first) word)
