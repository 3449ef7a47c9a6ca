-- The word of a sub-multiframe, whose C bits count as zeros, by 64 bits at a time.
use Rattle.std.proofs.Common.{◌≡◌, ◌≢◌, ℕ, ◌+◌, ◌-◌, ◌*◌, ◌/◌, ◌%◌, ◌<◌, ◌≤◌, ◌^◌, Bool, true, false, cond, eqb, List, ◌∷◌, ◌++◌, length, set, take, drop, refl, sym, ap, ◌∙◌, subst, inl, inr, arith, length-set, length-drop}
use Rattle.std.specs.Prelude.{◌==◌}
use Rattle.std.proofs.Math.Seq.{take-add}
use Rattle.std.proofs.lemmas.Bool.{cases_lt, cases_eq, eq-eqb, ne_eqb}
use Rattle.std.proofs.lemmas.List.{drop-set, drop-set-lt, drop-set-add, take-set-le, drop-drop, drop-take, take-take, length-take-le, take_all}
use Rattle.pdh_bits.specs.Bits.{bit, bits_of}
use Rattle.pdh_bits.proofs.BitsLemmas.{bits_of-bytes_of}
use Rattle.pdh_packed.specs.Words.{low_bits}
use Rattle.pdh_packed.specs.WordLaws.{low_bits_more, length-low_bits}
use Rattle.pdh_packed.proofs.ByteLaws.{bytes_of_number, bytes_of_low}
use Rattle.pdh_e1.specs.Crc4.{crc4, cleared}

-- 63 bits behind a zero
pub after_zero : (word : List Bool) (n : ℕ) → length word ≡ 63 → low_bits (length word) n ≡ word → n < 2 ^ length word → low_bits 64 n ≡ false ∷ word
after_zero word n long written small =
    let below : n < 2 ^ 63 = let P : ℕ → Type 0 = λ k. n < 2 ^ k in subst P long small in
    let none : n / 2 ^ 63 % 2 ≡ 0 = omega arith in
    let first : bit n 63 ≡ false = ap (λ (v : ℕ). eqb v 1) none in
    low_bits_more 63 n ∙ ap (λ b. b ∷ low_bits 63 n) first ∙ ap (λ (x : List Bool). false ∷ x) (ap (λ (k : ℕ). low_bits k n) (sym long) ∙ written)

pub word_whole : (word : List Bool) (n : ℕ) → length word ≡ 64 → low_bits (length word) n ≡ word → low_bits 64 n ≡ word
word_whole word n long written = ap (λ (k : ℕ). low_bits k n) (sym long) ∙ written

-- ---- the C bits

-- 64 bits that a number of such pieces comes before
abbrev piece : ℕ → List Bool → List Bool
piece i bits = take 64 (drop (64 * i) bits)

-- a bit at the beginning of another piece
piece_other : (bits : List Bool) (i j : ℕ) (b : Bool) → j ≢ i → piece i (set bits (64 * j) b) ≡ piece i bits
piece_other bits i j b other = elim (cases_lt j i) [
  | inl before ↦ ap (take 64) (drop-set-lt (64 * i) bits (64 * j) b (omega arith))
  | inr behind ↦
      let on : 64 * j ≡ 64 * i + (64 * j - 64 * i) = omega arith in
      ap (λ (k : ℕ). take 64 (drop (64 * i) (set bits k b))) on ∙ ap (take 64) (drop-set-add (64 * i) bits (64 * j - 64 * i) b)
      ∙ take-set-le 64 (drop (64 * i) bits) (64 * j - 64 * i) b (omega arith)
]

-- and of this one
piece_first : (bits : List Bool) (i : ℕ) (b : Bool) → 64 * i < length bits → piece i (set bits (64 * i) b) ≡ b ∷ take 63 (drop (64 * i + 1) bits)
piece_first bits i b inside = ap (take 64) (drop-set bits (64 * i) b inside)

-- the bits behind it
behind_other : (bits : List Bool) (i j : ℕ) (b : Bool) → j < i → take 63 (drop (64 * i + 1) (set bits (64 * j) b)) ≡ take 63 (drop (64 * i + 1) bits)
behind_other bits i j b before = ap (take 63) (drop-set-lt (64 * i + 1) bits (64 * j) b (omega arith))

-- with one, two and three C bits cleared
abbrev one : List Bool → List Bool
one bits = set bits (64 * 0) false

abbrev two : List Bool → List Bool
two bits = set (one bits) (64 * 8) false

abbrev three : List Bool → List Bool
three bits = set (two bits) (64 * 16) false

cleared_is : (bits : List Bool) → cleared bits ≡ set (three bits) (64 * 24) false
unfolding cleared
cleared_is bits = refl

length_one : (bits : List Bool) → length (one bits) ≡ length bits
length_one bits = length-set bits (64 * 0) false

length_two : (bits : List Bool) → length (two bits) ≡ length bits
length_two bits = length-set (one bits) (64 * 8) false ∙ length_one bits

length_three : (bits : List Bool) → length (three bits) ≡ length bits
length_three bits = length-set (two bits) (64 * 16) false ∙ length_two bits

length_cleared : (bits : List Bool) → length (cleared bits) ≡ length bits
length_cleared bits = ap length (cleared_is bits) ∙ length-set (three bits) (64 * 24) false ∙ length_three bits

-- 64 bits as they count
abbrev counts : List Bool → ℕ → Bool → List Bool
counts bits i check = cond check (false ∷ take 63 (drop (64 * i + 1) bits)) (piece i bits)

-- a piece that begins with a C bit
at : (j i : ℕ) → i ≡ j → (changed bits : List Bool) → piece j changed ≡ false ∷ take 63 (drop (64 * j + 1) bits) → j % 8 ≡ 0 → piece i changed ≡ counts bits i (i % 8 == 0)
at j i e changed bits is eight =
    ap (λ (k : ℕ). piece k changed) e ∙ is ∙ ap (λ (k : ℕ). false ∷ take 63 (drop (64 * k + 1) bits)) (sym e) ∙ sym (ap (counts bits i) (eq-eqb (i % 8) 0 (ap (λ (k : ℕ). k % 8) e ∙ eight)))

one_piece : (bits : List Bool) (i : ℕ) → length bits ≡ 2048 → i < 32 → i ≢ 8 → i ≢ 16 → i ≢ 24 → piece i (one bits) ≡ counts bits i (i % 8 == 0)
one_piece bits i long near second third fourth = elim (cases_eq i 0) [
  | inl here ↦ at 0 i here (one bits) bits (piece_first bits 0 false (omega arith)) refl
  | inr other ↦
      let none : i % 8 ≢ 0 = omega arith in
      piece_other bits i 0 false (λ e. other (sym e)) ∙ sym (ap (counts bits i) (ne_eqb _ _ none))
]

two_piece : (bits : List Bool) (i : ℕ) → length bits ≡ 2048 → i < 32 → i ≢ 16 → i ≢ 24 → piece i (two bits) ≡ counts bits i (i % 8 == 0)
two_piece bits i long near third fourth = elim (cases_eq i 8) [
  | inl here ↦ at 8 i here (two bits) bits (piece_first (one bits) 8 false (omega (arith, length_one bits)) ∙ ap (λ (x : List Bool). false ∷ x) (behind_other bits 8 0 false (omega arith))) refl
  | inr other ↦ piece_other (one bits) i 8 false (λ e. other (sym e)) ∙ one_piece bits i long near other third fourth
]

three_piece : (bits : List Bool) (i : ℕ) → length bits ≡ 2048 → i < 32 → i ≢ 24 → piece i (three bits) ≡ counts bits i (i % 8 == 0)
three_piece bits i long near fourth = elim (cases_eq i 16) [
  | inl here ↦
      at 16 i here (three bits) bits
      (piece_first (two bits) 16 false (omega (arith, length_two bits)) ∙ ap (λ (x : List Bool). false ∷ x) (behind_other (one bits) 16 8 false (omega arith) ∙ behind_other bits 16 0 false (omega arith))) refl
  | inr other ↦ piece_other (two bits) i 16 false (λ e. other (sym e)) ∙ two_piece bits i long near other fourth
]

cleared_piece : (bits : List Bool) (i : ℕ) → length bits ≡ 2048 → i < 32 → piece i (cleared bits) ≡ counts bits i (i % 8 == 0)
cleared_piece bits i long near =
    let four : piece i (set (three bits) (64 * 24) false) ≡ counts bits i (i % 8 == 0) = elim (cases_eq i 24) [
      | inl here ↦
          at 24 i here (set (three bits) (64 * 24) false) bits
          (piece_first (three bits) 24 false (omega (arith, length_three bits))
          ∙ ap (λ (x : List Bool). false ∷ x) (behind_other (two bits) 24 16 false (omega arith) ∙ behind_other (one bits) 24 8 false (omega arith) ∙ behind_other bits 24 0 false (omega arith))) refl
      | inr other ↦ piece_other (three bits) i 24 false (λ e. other (sym e)) ∙ three_piece bits i long near other
    ] in
    ap (piece i) (cleared_is bits) ∙ four

-- ---- the word

-- one more piece
pub word_more : (bits : List Bool) (start i word next n : ℕ) (octets : List ℕ) (number : List Bool) → start + 2048 ≤ length bits → i < 32 → word ≡ crc4 (take (64 * i) (cleared (take 2048 (drop start bits))))
    → number ≡ cond (i % 8 == 0) (false ∷ take 63 (drop (start + 64 * i + 1) bits)) (take 64 (drop (start + 64 * i) bits)) → low_bits 64 n ≡ number → octets ≡ bytes_of_number n
    → ((before : List Bool) → word ≡ crc4 before → next ≡ crc4 (before ++ bits_of octets)) → next ≡ crc4 (take (64 * (i + 1)) (cleared (take 2048 (drop start bits))))
word_more bits start i word next n octets number room near is n_is written o_is more =
    let block : List Bool = take 2048 (drop start bits) in
    let whole : length block ≡ 2048 = length-take-le 2048 (drop start bits) (omega (arith, length-drop start bits)) in
    let long : length number ≡ 64 = ap length (sym written) ∙ length-low_bits 64 n in
    let eight : length number % 8 ≡ 0 = ap (λ (k : ℕ). k % 8) long in
    let read : bits_of octets ≡ number = ap bits_of (o_is ∙ bytes_of_low n number written) ∙ bits_of-bytes_of number eight in
    let same : number ≡ piece i (cleared block) = n_is ∙ inside (i % 8 == 0) ∙ sym (cleared_piece block i whole near) in
    let size : 64 * (i + 1) ≡ 64 * i + 64 = omega arith in
    more (take (64 * i) (cleared block)) is
    ∙ ap (λ (x : List Bool). crc4 (take (64 * i) (cleared block) ++ x)) (read ∙ same)
    ∙ sym (ap crc4 (ap (λ (k : ℕ). take k (cleared block)) size ∙ take-add (64 * i) 64 (cleared block)))
  where
    -- a part of the block is one of the bits
    part : (k m : ℕ) → k + m ≤ 2048 → take m (drop (start + k) bits) ≡ take m (drop k (take 2048 (drop start bits)))
    part k m few =
        let size : 2048 ≡ k + (2048 - k) = omega arith in
        ap (take m) (sym (drop-drop k start bits)) ∙ sym (take-take m (2048 - k) (drop k (drop start bits)) (omega arith))
        ∙ sym (ap (take m) (ap (λ (j : ℕ). drop k (take j (drop start bits))) size ∙ drop-take k (2048 - k) (drop start bits)))

    inside : (check : Bool) → cond check (false ∷ take 63 (drop (start + 64 * i + 1) bits)) (take 64 (drop (start + 64 * i) bits)) ≡ counts (take 2048 (drop start bits)) i check
    inside true = let place : start + 64 * i + 1 ≡ start + (64 * i + 1) = omega arith in ap (λ (k : ℕ). false ∷ take 63 (drop k bits)) place ∙ ap (λ (x : List Bool). false ∷ x) (part (64 * i + 1) 63 (omega arith))
    inside false = part (64 * i) 64 (omega arith)

pub word_all : (bits : List Bool) (start i : ℕ) → start + 2048 ≤ length bits → i ≡ 32 → crc4 (take (64 * i) (cleared (take 2048 (drop start bits)))) ≡ crc4 (cleared (take 2048 (drop start bits)))
word_all bits start i room all =
    let block : List Bool = take 2048 (drop start bits) in
    let whole : length block ≡ 2048 = length-take-le 2048 (drop start bits) (omega (arith, length-drop start bits)) in
    ap crc4 (take_all (64 * i) (cleared block) (omega (arith, length_cleared block)))
