-- The words that check bits carry: remainders of a division by a polynomial over bits. Bit k of the number of a remainder
-- is what stands before its x^k.
use Rattle.std.specs.Prelude.{ℕ, Bool, true, false, List, [], ◌∷◌, length}
use Rattle.std.specs.Int.RustNames.{bit_xor}

-- the word of bits: the exclusive or of what each bit that is 1 leaves, by how many bits come behind it
abbrev pub word_by : (ℕ → ℕ) → List Bool → ℕ
word_by left [] = 0
word_by left (true ∷ rest) = bit_xor (left (length rest)) (word_by left rest)
word_by left (false ∷ rest) = word_by left rest
