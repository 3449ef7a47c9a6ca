-- The words of codes, bit by bit and as numbers.
use Rattle.std.proofs.Common.{◌≡◌, ℕ, zero, suc, ◌+◌, ◌-◌, ◌*◌, ◌/◌, ◌%◌, ◌^◌, ◌<◌, ◌≤◌, Bool, true, false, List, [], ◌∷◌, ◌++◌, length, reverse, replicate, get_or, refl, sym, ◌∙◌, ap, arith}
use Rattle.std.proofs.lemmas.List.{get_or_append_left, get_or-append_right, get_or-replicate, length-replicate, reverse-reverse}
use Rattle.pdh_bits.specs.Bits.{bit, bit_value, number_of}
use Rattle.pdh_cbit.specs.Bits.{bits_of}
use Rattle.pdh_cbit.specs.Feac.{word_of, feac_bit}
use Rattle.pdh_cbit.proofs.Numbers.{bit_value-bit, number_of-reverse, same_bits, value_of}

length-bits_of : (width n : ℕ) → length (bits_of width n) ≡ width
length-bits_of zero n = refl
length-bits_of (suc width) n = ap suc (length-bits_of width n)

-- a bit of a number by its place among so many
get_or-bits_of : (width n i : ℕ) → i < width → get_or (bits_of width n) i false ≡ bit n (width - 1 - i)
get_or-bits_of zero n i within = absurd (omega arith)
get_or-bits_of (suc width) n zero within =
    let first : width ≡ suc width - 1 - 0 = omega arith in ap (bit n) first
get_or-bits_of (suc width) n (suc i) within =
    let place : width - 1 - i ≡ suc width - 1 - suc i = omega arith in
    get_or-bits_of width n i (omega arith) ∙ ap (bit n) place

-- a sender's bit depends on the place in the word alone
pub feac_bit-mod : (code n : ℕ) → feac_bit code (n % 16) ≡ feac_bit code n
unfolding feac_bit
feac_bit-mod code n =
    let same : n % 16 % 16 ≡ n % 16 = omega arith in ap (λ (i : ℕ). get_or (word_of code) i false) same

feac_bit-place : (code place : ℕ) → place < 16 → feac_bit code place ≡ get_or (word_of code) place false
unfolding feac_bit
feac_bit-place code place within =
    let same : place % 16 ≡ place = omega arith in ap (λ (i : ℕ). get_or (word_of code) i false) same

-- the bits of a word: eight ones,
pub feac_bit-ones : (code place : ℕ) → place < 8 → feac_bit code place ≡ true
unfolding word_of
feac_bit-ones code place within =
    let tail : List Bool = false ∷ (bits_of 6 code ++ false ∷ []) in
    let at : get_or (replicate 8 true ++ tail) place false ≡ get_or (replicate 8 true) place false = get_or_append_left (replicate 8 true) tail false place (omega arith) in
    feac_bit-place code place (omega arith) ∙ at ∙ get_or-replicate 8 place true false within

-- a zero,
pub feac_bit-zero : (code place : ℕ) → place ≡ 8 → feac_bit code place ≡ false
unfolding word_of
feac_bit-zero code place at = ap (feac_bit code) at ∙ feac_bit-place code 8 (omega arith)

-- the bits of the code,
pub feac_bit-code : (code place : ℕ) → 9 ≤ place → place ≤ 14 → feac_bit code place ≡ bit code (14 - place)
unfolding word_of
feac_bit-code code place low high =
    let tail : List Bool = bits_of 6 code ++ false ∷ [] in
    let front : List Bool = replicate 8 true ++ false ∷ [] in
    let after : get_or (front ++ tail) place false ≡ get_or tail (place - 9) false = get_or-append_right front tail 9 place false refl low in
    let among : get_or tail (place - 9) false ≡ get_or (bits_of 6 code) (place - 9) false = get_or_append_left (bits_of 6 code) (false ∷ []) false (place - 9) (omega (arith, length-bits_of 6 code)) in
    let there : get_or (bits_of 6 code) (place - 9) false ≡ bit code (6 - 1 - (place - 9)) = get_or-bits_of 6 code (place - 9) (omega arith) in
    let same : 6 - 1 - (place - 9) ≡ 14 - place = omega arith in
    feac_bit-place code place (omega arith) ∙ after ∙ among ∙ there ∙ ap (bit code) same

-- and a zero
pub feac_bit-last : (code place : ℕ) → place ≡ 15 → feac_bit code place ≡ false
unfolding word_of
feac_bit-last code place at = ap (feac_bit code) at ∙ feac_bit-place code 15 (omega arith)

-- the number that a word writes
pub number_of-word_of : (code : ℕ) → code < 64 → number_of (word_of code) ≡ 0xFF00 + 2 * code
unfolding word_of
number_of-word_of code fits =
    omega (arith, bit_value-bit code 5, bit_value-bit code 4, bit_value-bit code 3, bit_value-bit code 2, bit_value-bit code 1, bit_value-bit code 0)

-- no two codes have the same word
pub same_code : (c d : ℕ) → c < 64 → d < 64 → number_of (word_of c) ≡ number_of (word_of d) → c ≡ d
same_code c d first second same = omega (arith, number_of-word_of c first, number_of-word_of d second)

-- the code of a word, by the number that the word writes
pub code_from_number : (number code : ℕ) → code < 64 → number ≡ number_of (word_of code) → number / 2 % 64 ≡ code
code_from_number number code fits is = omega (arith, number_of-word_of code fits)

-- the latest bit of a word first
unfoldable pub reversed_word : ℕ → List Bool
reversed_word code = reverse (word_of code)

pub length-reversed_word : (code : ℕ) → length (reversed_word code) ≡ 16
unfolding reversed_word word_of
length-reversed_word code = refl

pub number_of-reversed_word : (code : ℕ) → number_of (reverse (reversed_word code)) ≡ number_of (word_of code)
unfolding reversed_word
number_of-reversed_word code = ap number_of (reverse-reverse (word_of code))

-- sixteen bits that write a word's number are the word
pub word_from_number : (bits : List Bool) (code : ℕ) → length bits ≡ 16 → number_of (reverse bits) ≡ number_of (word_of code) → bits ≡ reversed_word code
word_from_number bits code long same =
    let value : value_of bits ≡ value_of (reversed_word code) =
    sym (number_of-reverse bits) ∙ same ∙ sym (number_of-reversed_word code) ∙ number_of-reverse (reversed_word code) in
    same_bits bits (reversed_word code) (long ∙ sym (length-reversed_word code)) value
