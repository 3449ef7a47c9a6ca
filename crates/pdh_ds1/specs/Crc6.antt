-- The CRC-6 of an extended superframe (ITU-T G.704, 2.1.3.1.2): the remainder of bits times x^6, divided by x^6 + x + 1.
use Rattle.std.specs.Prelude.{ℕ, zero, suc, ◌+◌, ◌*◌, ◌%◌, Bool, nat_le, if◌then◌else◌, List}
use Rattle.std.specs.Int.RustNames.{bit_xor}
use Rattle.pdh_framed.specs.Remainders.{word_by}

-- a polynomial of a degree below 7, less x^6 + x + 1 where it has x^6: bit k of the number is what stands before its x^k
abbrev pub reduced : ℕ → ℕ
reduced n = if nat_le 64 n then bit_xor n 67 else n

-- the remainder of x^n: x times that of the power before
abbrev pub power : ℕ → ℕ
power zero = 1
power (suc n) = reduced (2 * power n)

-- since that of x^63 is 1 again, they repeat
abbrev pub residue : ℕ → ℕ
residue n = power (n % 63)

-- the word of bits, the first bit before the highest power: the exclusive or of what each bit that is 1 leaves
abbrev pub crc6 : List Bool → ℕ
crc6 bits = word_by (λ n. residue (n + 6)) bits
