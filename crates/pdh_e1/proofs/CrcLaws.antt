-- The division of CRC-4, and the word of one octet more.
use Rattle.std.proofs.Common.{◌≡◌, ℕ, ◌/◌, ◌%◌, ◌<◌, Bool, true, eqb, List, [], ◌∷◌, ◌++◌, refl, ap, lit<, arith}
use Rattle.std.specs.Prelude.{nat_lt, slice_index}
use Rattle.std.specs.Int.RustNames.{bit_xor}
use Rattle.std.specs.List.{fold}
use Rattle.std.proofs.lemmas.Bool.{ltb-true}
use Rattle.std.proofs.lemmas.Nat.{xor_lt}
use Rattle.pdh_bits.specs.Bits.{bits_of_byte}
use Rattle.pdh_framed.proofs.Below.{all_below, at_below}
use Rattle.pdh_framed.proofs.RemainderLaws.{Division, Divides, next, word_lt, word_octet}
use Rattle.pdh_e1.specs.Crc4.{residues, residue, crc4}

abbrev pub division : Division
division = record { width = 4; period = 15; residue = residue }

divides : Divides division
divides = record {
  some = lit< tt;
  repeats = λ n. (let same : n % 15 % 15 ≡ n % 15 = omega arith in ap (λ (k : ℕ). slice_index residues k) same);
  each = refl;
  few = refl;
  sums = refl;
  nothing = refl;
  first = refl;
}

-- a word has four bits
pub crc4_lt : (bits : List Bool) → crc4 bits < 16
crc4_lt bits = word_lt division divides bits

-- what four bits leave in a register that held nothing
abbrev pub four_bits : List ℕ
four_bits = 0 ∷ 3 ∷ 6 ∷ 5 ∷ 12 ∷ 15 ∷ 10 ∷ 9 ∷ 11 ∷ 8 ∷ 13 ∷ 14 ∷ 7 ∷ 4 ∷ 1 ∷ 2 ∷ []

-- the register after one more octet, by its halves
abbrev pub by_halves : ℕ → ℕ → ℕ
by_halves register octet = slice_index four_bits (bit_xor (slice_index four_bits (bit_xor register (octet / 16))) (octet % 16))

halves_computed : all_below (λ register. all_below (λ octet. eqb (by_halves register octet) (fold (next division) register (bits_of_byte octet))) 256) 16 ≡ true
halves_computed = refl

pub crc4_octet : (bits : List Bool) (octet : ℕ) → octet < 256 → by_halves (crc4 bits) octet ≡ crc4 (bits ++ bits_of_byte octet)
crc4_octet bits octet small = word_octet division divides by_halves halves_computed bits octet small

pub halves_lt : (register octet : ℕ) → register < 16 → octet < 256 → bit_xor register (octet / 16) < 16
halves_lt register octet small byte = xor_lt 4 register (octet / 16) small (omega arith)

pub four_bits_lt : (n : ℕ) → n < 16 → slice_index four_bits n < 16
four_bits_lt n small = ltb-true _ _ (at_below (λ k. nat_lt (slice_index four_bits k) 16) 16 n refl small)
