-- The word that a sub-multiframe sends: its C bits cleared octet by octet, and what more octets leave of it.
use Rattle.std.proofs.Common.{◌≡◌, ℕ, zero, suc, ◌+◌, ◌-◌, ◌*◌, ◌/◌, ◌%◌, ◌^◌, ◌<◌, ◌≤◌, Bool, false, eqb, List, [], ◌∷◌, ◌++◌, length, get_or, set, refl, sym, ap, ◌∙◌, arith, length-set}
use Rattle.std.specs.List.{slice_range}
use Rattle.std.proofs.lemmas.List.{set-append_right}
use Rattle.pdh_bits.specs.Bits.{bit, bits_of_byte, bits_of}
use Rattle.pdh_e1.specs.Crc4.{crc4, cleared}
use Rattle.pdh_e1.specs.Multiframe.{sent_word}
use Rattle.pdh_e1.proofs.CrcLaws.{crc4_lt}
use Rattle.pdh_framed.proofs.Parts.{slice_range-append}

-- an octet without its first bit
first_cleared : (octet : ℕ) → bits_of_byte (octet % 128) ≡ false ∷ bit octet 6 ∷ bit octet 5 ∷ bit octet 4 ∷ bit octet 3 ∷ bit octet 2 ∷ bit octet 1 ∷ bit octet 0 ∷ []
first_cleared octet =
    let is_one = λ (n : ℕ). eqb n 1 in
    let n7 : octet % 128 / 2 ^ 7 % 2 ≡ 0 = omega arith in
    let e7 : bit (octet % 128) 7 ≡ false = ap is_one n7 in
    let n6 : octet % 128 / 2 ^ 6 % 2 ≡ octet / 2 ^ 6 % 2 = omega arith in
    let e6 : bit (octet % 128) 6 ≡ bit octet 6 = ap is_one n6 in
    let n5 : octet % 128 / 2 ^ 5 % 2 ≡ octet / 2 ^ 5 % 2 = omega arith in
    let e5 : bit (octet % 128) 5 ≡ bit octet 5 = ap is_one n5 in
    let n4 : octet % 128 / 2 ^ 4 % 2 ≡ octet / 2 ^ 4 % 2 = omega arith in
    let e4 : bit (octet % 128) 4 ≡ bit octet 4 = ap is_one n4 in
    let n3 : octet % 128 / 2 ^ 3 % 2 ≡ octet / 2 ^ 3 % 2 = omega arith in
    let e3 : bit (octet % 128) 3 ≡ bit octet 3 = ap is_one n3 in
    let n2 : octet % 128 / 2 ^ 2 % 2 ≡ octet / 2 ^ 2 % 2 = omega arith in
    let e2 : bit (octet % 128) 2 ≡ bit octet 2 = ap is_one n2 in
    let n1 : octet % 128 / 2 ^ 1 % 2 ≡ octet / 2 ^ 1 % 2 = omega arith in
    let e1 : bit (octet % 128) 1 ≡ bit octet 1 = ap is_one n1 in
    let n0 : octet % 128 / 2 ^ 0 % 2 ≡ octet / 2 ^ 0 % 2 = omega arith in
    let e0 : bit (octet % 128) 0 ≡ bit octet 0 = ap is_one n0 in
    cc

-- octets of which one has lost its first bit
abbrev pub without_first : List ℕ → ℕ → List ℕ
without_first octets k = set octets k (get_or octets k 0 % 128)

clear_first : (octets : List ℕ) (k : ℕ) → k < length octets → bits_of (without_first octets k) ≡ set (bits_of octets) (8 * k) false
clear_first [] k within = absurd (omega arith)
clear_first (octet ∷ rest) zero within = ap (λ (eight : List Bool). eight ++ bits_of rest) (first_cleared octet)
clear_first (octet ∷ rest) (suc k) within =
    let far : 8 * suc k - 8 ≡ 8 * k = omega arith in
    let behind : set (bits_of_byte octet ++ bits_of rest) (8 * suc k) false ≡ bits_of_byte octet ++ set (bits_of rest) (8 * suc k - 8) false =
    set-append_right (bits_of_byte octet) (bits_of rest) 8 (8 * suc k) false refl (omega arith) in
    ap (λ (bits : List Bool). bits_of_byte octet ++ bits) (clear_first rest k (omega arith))
    ∙ sym (ap (λ (i : ℕ). bits_of_byte octet ++ set (bits_of rest) i false) far)
    ∙ sym behind

-- octets of a sub-multiframe without its C bits
abbrev pub without_check : List ℕ → List ℕ
without_check octets = without_first (without_first (without_first (without_first octets 0) 64) 128) 192

bits_cleared : (octets : List ℕ) → length octets ≡ 256 → bits_of (without_check octets) ≡ cleared (bits_of octets)
unfolding cleared
bits_cleared octets whole =
    let a = without_first octets 0 in
    let b = without_first a 64 in
    let d = without_first b 128 in
    let one = clear_first octets 0 (omega arith) in
    let two = clear_first a 64 (omega (arith, length-set octets 0 (get_or octets 0 0 % 128))) in
    let three = clear_first b 128 (omega (arith, length-set octets 0 (get_or octets 0 0 % 128), length-set a 64 (get_or a 64 0 % 128))) in
    let four = clear_first d 192 (omega (arith, length-set octets 0 (get_or octets 0 0 % 128), length-set a 64 (get_or a 64 0 % 128), length-set b 128 (get_or b 128 0 % 128))) in
    four
    ∙ ap (λ (bits : List Bool). set bits 1536 false) three
    ∙ ap (λ (bits : List Bool). set (set bits 1024 false) 1536 false) two
    ∙ ap (λ (bits : List Bool). set (set (set bits 512 false) 1024 false) 1536 false) one

-- the word of the octets before a sub-multiframe's
pub sent_word_is : (line octets : List ℕ) (number word : ℕ) → (number ≡ 0 → ⊥) → length octets ≡ 256 → octets ≡ slice_range line (256 * number - 256) (256 * number) → word ≡ crc4 (bits_of (without_check octets)) → word ≡ sent_word line number
unfolding sent_word
sent_word_is line octets zero word later whole at is = absurd (later refl)
sent_word_is line octets (suc before) word later whole at is =
    let from : 256 * suc before - 256 ≡ 256 * before = omega arith in
    let end : 256 * suc before ≡ 256 * before + 256 = omega arith in
    let same : octets ≡ slice_range line (256 * before) (256 * before + 256) =
    at ∙ ap (λ (i : ℕ). slice_range line i (256 * suc before)) from ∙ ap (slice_range line (256 * before)) end in
    is ∙ ap crc4 (bits_cleared octets whole) ∙ ap (λ (o : List ℕ). crc4 (cleared (bits_of o))) same

-- the first sub-multiframe sends 0
pub sent_word-first : (line : List ℕ) → sent_word line 0 ≡ 0
unfolding sent_word
sent_word-first line = refl

-- a word has four bits
pub sent_word_lt : (line : List ℕ) (number : ℕ) → sent_word line number < 16
unfolding sent_word
sent_word_lt line zero = omega arith
sent_word_lt line (suc before) = crc4_lt (cleared (bits_of (slice_range line (256 * before) (256 * before + 256))))

-- it stays as more octets follow
pub sent_word-append : (line more : List ℕ) (number : ℕ) → 256 * number ≤ length line → sent_word (line ++ more) number ≡ sent_word line number
unfolding sent_word
sent_word-append line more zero within = refl
sent_word-append line more (suc before) within =
    ap (λ (o : List ℕ). crc4 (cleared (bits_of o))) (slice_range-append line more (256 * before) (256 * before + 256) (omega arith) (omega arith))
