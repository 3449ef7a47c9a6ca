-- Equal bytes at the beginning.
use Rattle.std.proofs.Common.{◌≡◌, ◌≢◌, ℕ, zero, suc, ◌+◌, ◌==◌, ◌||◌, ◌<◌, ◌≤◌, true, false, Bool, if◌then◌else◌, List, [], ◌∷◌, length, get_or, take, drop, replicate, refl, sym, ap, ◌∙◌, arith}
use Rattle.std.proofs.lemmas.List.{take-take, take-replicate, drop_more}
use Rattle.std.proofs.lemmas.Bool.Decides.{nat_tests}
use Rattle.pdh_recording.specs.Parts.{leading, passed_over}

-- one byte more is like them
pub leading_step : (byte : ℕ) (bytes : List ℕ) (index : ℕ) → index < length bytes → get_or bytes index 0 ≡ byte
    → leading byte (drop index bytes) ≡ suc (leading byte (drop (index + 1) bytes))
leading_step byte bytes index within same =
    ap (leading byte) (drop_more bytes index 0 within)
    ∙ ap (λ (test : Bool). (if test then suc (leading byte (drop (index + 1) bytes)) else 0)) (like (get_or bytes index 0) byte same)
  where
    like : (first byte : ℕ) → first ≡ byte → (first == byte) ≡ true
    like first byte is = grind (arith, nat_tests)

-- the next byte isn't
pub leading_stop : (byte : ℕ) (bytes : List ℕ) (index : ℕ) → index < length bytes → get_or bytes index 0 ≢ byte → leading byte (drop index bytes) ≡ 0
leading_stop byte bytes index within other =
    ap (leading byte) (drop_more bytes index 0 within)
    ∙ ap (λ (test : Bool). (if test then suc (leading byte (drop (index + 1) bytes)) else 0)) (unlike (get_or bytes index 0) byte other)
  where
    unlike : (first byte : ℕ) → first ≢ byte → (first == byte) ≡ false
    unlike first byte is = grind (arith, nat_tests)

copies_if : (same : Bool) (first byte n : ℕ) (rest : List ℕ) → (same ≡ true → first ≡ byte) → take n rest ≡ replicate n byte
    → take (if same then suc n else 0) (first ∷ rest) ≡ replicate (if same then suc n else 0) byte
copies_if true first byte n rest is more = ap (λ (l : List ℕ). first ∷ l) more ∙ ap (λ (b : ℕ). b ∷ replicate n byte) (is refl)
copies_if false first byte n rest is more = refl

leading_copies : (byte : ℕ) (bytes : List ℕ) → take (leading byte bytes) bytes ≡ replicate (leading byte bytes) byte
leading_copies byte [] = refl
leading_copies byte (first ∷ rest) = copies_if (first == byte) first byte (leading byte rest) rest (λ same. grind (arith, nat_tests)) (leading_copies byte rest)

-- one byte more in front of its copies
one_more : (n byte : ℕ) (rest : List ℕ) → take n rest ≡ replicate n byte → take n (byte ∷ rest) ≡ replicate n byte
one_more zero byte rest copies = refl
one_more (suc n) byte rest copies =
    let fewer : take n rest ≡ replicate n byte = sym (take-take n (suc n) rest (omega arith)) ∙ ap (take n) copies ∙ take-replicate n (suc n) byte (omega arith) in
    ap (λ (l : List ℕ). byte ∷ l) fewer

passed_if : (test : Bool) (byte n : ℕ) (rest : List ℕ) → take n rest ≡ replicate n byte
    → take (if test then n else 0) (byte ∷ rest) ≡ replicate (if test then n else 0) byte
passed_if true byte n rest copies = one_more n byte rest copies
passed_if false byte n rest copies = refl

-- what is passed over are copies of the first byte
pub passed_copies : (bytes : List ℕ) → take (passed_over bytes) bytes ≡ replicate (passed_over bytes) (get_or bytes 0 0)
passed_copies [] = refl
passed_copies (byte ∷ rest) = passed_if (byte == 0 || byte == 255) byte (leading byte rest) rest (leading_copies byte rest)

leading_few : (byte : ℕ) (bytes : List ℕ) → leading byte bytes ≤ length bytes
leading_few byte [] = omega arith
leading_few byte (first ∷ rest) = few_if (first == byte) (leading byte rest) (length rest) (leading_few byte rest)
  where
    few_if : (same : Bool) (n most : ℕ) → n ≤ most → (if same then suc n else 0) ≤ suc most
    few_if true n most few = omega (arith, few)
    few_if false n most few = omega arith

-- no more are passed over than there are
pub passed_few : (bytes : List ℕ) → passed_over bytes ≤ length bytes
passed_few [] = omega arith
passed_few (byte ∷ rest) = few_if (byte == 0 || byte == 255) (leading byte rest) (length rest) (leading_few byte rest)
  where
    few_if : (test : Bool) (n most : ℕ) → n ≤ most → (if test then n else 0) ≤ suc most
    few_if true n most few = omega (arith, few)
    few_if false n most few = omega arith
