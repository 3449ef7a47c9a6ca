-- Words of more bits, where the division is by x^width + x + 1: by its numbers, which CRC-4 and CRC-6 differ in.
use Rattle.std.proofs.Common.{◌≡◌, ℕ, ◌+◌, ◌-◌, ◌*◌, ◌%◌, ◌^◌, ◌<◌, Bool, true, false, eqb, List, [], ◌∷◌, ◌++◌, length, append_assoc, append-nil, sym, ◌∙◌, ap, subst, arith, length-append}
use Rattle.std.specs.Prelude.{nat_le, nat_lt, if◌then◌else◌}
use Rattle.std.specs.Int.RustNames.{bit_xor}
use Rattle.std.specs.Int.Bits.{xor_assoc}
use Rattle.std.specs.List.{fold}
use Rattle.std.proofs.lemmas.Bool.{eqb-true, ltb-true}
use Rattle.std.proofs.lemmas.Nat.{xor_lt, mod_below}
use Rattle.std.proofs.Math.Nat.{mod-add-mod}
use Rattle.pdh_bits.specs.Bits.{bits_of_byte}
use Rattle.pdh_framed.specs.Remainders.{word_by}
use Rattle.pdh_framed.proofs.Below.{all_below, at_below}

-- the numbers of a division
pub record Division : Type 0 where
  -- bits in a remainder
  pub width : ℕ
  -- after how many powers of x the remainders repeat
  pub period : ℕ
  -- the remainder of x^n
  pub residue : ℕ → ℕ

-- x times a remainder, divided: x^width leaves x + 1
abbrev pub times_x : Division → ℕ → ℕ
times_x d n = if nat_le (2 ^ (d.width - 1)) n then bit_xor (2 * (n % 2 ^ (d.width - 1))) 3 else 2 * (n % 2 ^ (d.width - 1))

-- the word after one more bit
abbrev pub next : Division → ℕ → Bool → ℕ
next d before b = bit_xor (times_x d before) (if b then 3 else 0)

-- the word of bits times x^width
abbrev pub word : Division → List Bool → ℕ
word d = word_by (λ n. d.residue (n + d.width))

-- the numbers are those of such a division, by computed tests: each residue is x times the one before, and x times a sum is
-- the sum of x times each
pub record Divides (d : Division) : Type 0 where
  pub some : 0 < d.period
  pub repeats : (n : ℕ) → d.residue (n % d.period) ≡ d.residue n
  pub each : all_below (λ n. eqb (d.residue (n + 1)) (times_x d (d.residue n))) d.period ≡ true
  pub few : all_below (λ n. nat_lt (d.residue n) (2 ^ d.width)) d.period ≡ true
  pub sums : all_below (λ a. all_below (λ b. eqb (times_x d (bit_xor a b)) (bit_xor (times_x d a) (times_x d b))) (2 ^ d.width)) (2 ^ d.width) ≡ true
  pub nothing : times_x d 0 ≡ 0
  pub first : d.residue d.width ≡ 3

module _ (d : Division) (divides : Divides d) where
  residue_more : (n : ℕ) → d.residue (n + 1) ≡ times_x d (d.residue n)
  residue_more n =
      let k : ℕ = n % d.period in
      let at : d.residue (k + 1) ≡ times_x d (d.residue k) =
      eqb-true (d.residue (k + 1)) (times_x d (d.residue k)) (at_below (λ n. eqb (d.residue (n + 1)) (times_x d (d.residue n))) d.period k divides.each (mod_below n d.period divides.some)) in
      let after : d.residue (k + 1) ≡ d.residue (n + 1) =
      sym (divides.repeats (k + 1)) ∙ ap d.residue (mod-add-mod n d.period 1) ∙ divides.repeats (n + 1) in
      sym after ∙ at ∙ ap (times_x d) (divides.repeats n)

  residue_lt : (n : ℕ) → d.residue n < 2 ^ d.width
  residue_lt n =
      let at : d.residue (n % d.period) < 2 ^ d.width =
      ltb-true (d.residue (n % d.period)) (2 ^ d.width) (at_below (λ k. nat_lt (d.residue k) (2 ^ d.width)) d.period (n % d.period) divides.few (mod_below n d.period divides.some)) in
      subst (λ (r : ℕ). r < 2 ^ d.width) (divides.repeats n) at

  times_x-xor : (a b : ℕ) → a < 2 ^ d.width → b < 2 ^ d.width → times_x d (bit_xor a b) ≡ bit_xor (times_x d a) (times_x d b)
  times_x-xor a b small_a small_b =
      let test : ℕ → ℕ → Bool = λ a. λ b. eqb (times_x d (bit_xor a b)) (bit_xor (times_x d a) (times_x d b)) in
      eqb-true (times_x d (bit_xor a b)) (bit_xor (times_x d a) (times_x d b))
      (at_below (test a) (2 ^ d.width) b (at_below (λ a. all_below (test a) (2 ^ d.width)) (2 ^ d.width) a divides.sums small_a) small_b)

  -- a word is a remainder
  pub word_lt : (bits : List Bool) → word d bits < 2 ^ d.width
  word_lt [] = omega (arith, residue_lt 0)
  word_lt (true ∷ rest) = xor_lt d.width (d.residue (length rest + d.width)) (word d rest) (residue_lt (length rest + d.width)) (word_lt rest)
  word_lt (false ∷ rest) = word_lt rest

  -- the word of one bit more
  pub word_more : (bits : List Bool) (b : Bool) → word d (bits ++ b ∷ []) ≡ next d (word d bits) b
  word_more [] true =
      let here : 0 + d.width ≡ d.width = omega arith in
      ap (λ (n : ℕ). bit_xor (d.residue n) 0) here ∙ ap (λ (n : ℕ). bit_xor n 0) divides.first ∙ sym (ap (λ (n : ℕ). bit_xor n 3) divides.nothing)
  word_more [] false = sym (ap (λ (n : ℕ). bit_xor n 0) divides.nothing)
  word_more (true ∷ rest) b =
      let value : ℕ = if b then 3 else 0 in
      let left : ℕ = d.residue (length rest + d.width) in
      let far : length (rest ++ b ∷ []) + d.width ≡ length rest + d.width + 1 = omega (arith, length-append rest (b ∷ [])) in
      let first : d.residue (length (rest ++ b ∷ []) + d.width) ≡ times_x d left = ap d.residue far ∙ residue_more (length rest + d.width) in
      let both : times_x d (bit_xor left (word d rest)) ≡ bit_xor (times_x d left) (times_x d (word d rest)) =
      times_x-xor left (word d rest) (residue_lt (length rest + d.width)) (word_lt rest) in
      ap (λ (n : ℕ). bit_xor n (word d (rest ++ b ∷ []))) first
      ∙ ap (bit_xor (times_x d left)) (word_more rest b)
      ∙ sym (xor_assoc (times_x d left) (times_x d (word d rest)) value)
      ∙ sym (ap (λ (n : ℕ). bit_xor n value) both)
  word_more (false ∷ rest) b = word_more rest b

  -- of more bits
  pub word-append : (bits more : List Bool) → word d (bits ++ more) ≡ fold (next d) (word d bits) more
  word-append bits [] = ap (word d) (append-nil bits)
  word-append bits (b ∷ more) =
      ap (word d) (sym (append_assoc bits (b ∷ []) more)) ∙ word-append (bits ++ b ∷ []) more ∙ ap (λ (n : ℕ). fold (next d) n more) (word_more bits b)

  -- and of one octet more, by a step that was computed for each word and octet
  pub word_octet : (step : ℕ → ℕ → ℕ) → all_below (λ before. all_below (λ octet. eqb (step before octet) (fold (next d) before (bits_of_byte octet))) 256) (2 ^ d.width) ≡ true
      → (bits : List Bool) (octet : ℕ) → octet < 256 → step (word d bits) octet ≡ word d (bits ++ bits_of_byte octet)
  word_octet step computed bits octet small =
      let test : ℕ → ℕ → Bool = λ before. λ o. eqb (step before o) (fold (next d) before (bits_of_byte o)) in
      eqb-true (step (word d bits) octet) (fold (next d) (word d bits) (bits_of_byte octet))
      (at_below (test (word d bits)) 256 octet (at_below (λ before. all_below (test before) 256) (2 ^ d.width) (word d bits) computed (word_lt bits)) small)
      ∙ sym (word-append bits (bits_of_byte octet))
