-- The division of CRC-6, and the word of one bit more and of one octet more.
use Rattle.std.proofs.Common.{◌≡◌, ℕ, ◌*◌, ◌/◌, ◌%◌, ◌<◌, Bool, true, false, eqb, List, [], ◌∷◌, ◌++◌, refl, sym, ◌∙◌, ap, lit<, arith}
use Rattle.std.specs.Prelude.{nat_le, not, if◌then◌else◌}
use Rattle.std.specs.Int.RustNames.{bit_xor}
use Rattle.std.specs.Bool.{beq}
use Rattle.std.specs.List.{fold}
use Rattle.std.proofs.lemmas.Bool.{eqb-true}
use Rattle.std.proofs.lemmas.Nat.{xor_lt}
use Rattle.pdh_bits.specs.Bits.{bits_of_byte}
use Rattle.pdh_framed.proofs.Below.{all_below, at_below}
use Rattle.pdh_framed.proofs.RemainderLaws.{Division, Divides, next, word_lt, word_more, word_octet}
use Rattle.pdh_ds1.specs.Crc6.{power, residue, crc6}

abbrev pub division : Division
division = record { width = 6; period = 63; residue = residue }

divides : Divides division
divides = record {
  some = lit< tt;
  repeats = λ n. (let same : n % 63 % 63 ≡ n % 63 = omega arith in ap power same);
  each = refl;
  few = refl;
  sums = refl;
  nothing = refl;
  first = refl;
}

-- a word has six bits
pub crc6_lt : (bits : List Bool) → crc6 bits < 64
crc6_lt bits = word_lt division divides bits

-- ---- one octet more

-- these bits times x + 1
abbrev pub times : ℕ → ℕ
times n = bit_xor n (2 * n)

-- these bits times x^6, divided: what the highest of them leave joins the others
abbrev pub reduced_twice : ℕ → ℕ
reduced_twice n = bit_xor (bit_xor (times n % 64) (times n / 64)) (2 * (times n / 64))

-- the register after one more octet
abbrev pub by_octet : ℕ → ℕ → ℕ
by_octet register octet = reduced_twice (bit_xor (4 * register) octet)

octets_computed : all_below (λ register. all_below (λ octet. eqb (by_octet register octet) (fold (next division) register (bits_of_byte octet))) 256) 64 ≡ true
octets_computed = refl

pub crc6_octet : (bits : List Bool) (octet : ℕ) → octet < 256 → by_octet (crc6 bits) octet ≡ crc6 (bits ++ bits_of_byte octet)
crc6_octet bits octet small = word_octet division divides by_octet octets_computed bits octet small

pub by_octet_lt : (register octet : ℕ) → register < 64 → octet < 256 → by_octet register octet < 64
by_octet_lt register octet small byte =
    let n : ℕ = bit_xor (4 * register) octet in
    let joined : n < 256 = xor_lt 8 (4 * register) octet (omega arith) byte in
    let few : times n < 512 = xor_lt 9 n (2 * n) (omega (arith, joined)) (omega (arith, joined)) in
    let low : times n % 64 < 64 = omega arith in
    let high : times n / 64 < 8 = omega (arith, few) in
    xor_lt 6 (bit_xor (times n % 64) (times n / 64)) (2 * (times n / 64)) (xor_lt 6 (times n % 64) (times n / 64) low (omega (arith, high))) (omega (arith, high))

-- ---- one bit more

-- the register after one more bit, by whether its first bit differs from it
abbrev pub by_first : ℕ → Bool → Bool → ℕ
by_first register bit differs = if differs then bit_xor (2 * (register % 32)) 3 else 2 * (register % 32)

firsts_computed : (b : Bool) → all_below (λ register. eqb (by_first register b (not (beq (nat_le 32 register) b))) (next division register b)) 64 ≡ true
firsts_computed true = refl
firsts_computed false = refl

pub crc6_bit : (register : ℕ) (bit differs : Bool) (bits : List Bool) → register ≡ crc6 bits → not (beq (nat_le 32 register) bit) ≡ differs → by_first register bit differs ≡ crc6 (bits ++ bit ∷ [])
crc6_bit register b differs bits holds test =
    let small : register < 64 = omega (arith, crc6_lt bits) in
    let computed = eqb-true _ _ (at_below (λ register. eqb (by_first register b (not (beq (nat_le 32 register) b))) (next division register b)) 64 register (firsts_computed b) small) in
    sym (ap (by_first register b) test) ∙ computed ∙ ap (λ (n : ℕ). next division n b) holds ∙ sym (word_more division divides bits b)
