-- The bits of a number of any width, the most significant first.
use Rattle.std.specs.Prelude.{ℕ, zero, suc, Bool, List, [], ◌∷◌}
use Rattle.pdh_bits.specs.Bits.{bit}

-- so many bits of a number
abbrev pub bits_of : ℕ → ℕ → List Bool
bits_of zero n = []
bits_of (suc width) n = bit n width ∷ bits_of width n
