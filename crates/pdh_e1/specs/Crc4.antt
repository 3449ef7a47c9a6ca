-- The CRC-4 of G.704, 2.3.3.5: the remainder of bits times x^4, divided by x^4 + x + 1.
use Rattle.std.specs.Prelude.{ℕ, ◌+◌, ◌%◌, Bool, false, List, [], ◌∷◌, slice_index, slice_set}
use Rattle.pdh_framed.specs.Remainders.{word_by}

-- the remainders of x^0 to x^14 divided by x^4 + x + 1: bit k of a remainder is what stands before its x^k
abbrev pub residues : List ℕ
residues = 1 ∷ 2 ∷ 4 ∷ 8 ∷ 3 ∷ 6 ∷ 12 ∷ 11 ∷ 5 ∷ 10 ∷ 7 ∷ 14 ∷ 15 ∷ 13 ∷ 9 ∷ []

-- the remainder of x^n: since that of x^15 is 1, they repeat
abbrev pub residue : ℕ → ℕ
residue n = slice_index residues (n % 15)

-- the word of bits, the first bit before the highest power: the exclusive or of what each bit that is 1 leaves
abbrev pub crc4 : List Bool → ℕ
crc4 bits = word_by (λ n. residue (n + 4)) bits

-- the bits of a sub-multiframe with its own C bits taken as 0: the first bits of its frames 0, 2, 4 and 6
unfoldable pub cleared : List Bool → List Bool
cleared bits = slice_set (slice_set (slice_set (slice_set bits 0 false) 512 false) 1024 false) 1536 false
