-- The C bits of a DS3 frame: three in each of its seven subframes.
use Rattle.std.specs.Prelude.{ℕ, ◌+◌, ◌-◌, ◌*◌, Bool, List, [], ◌∷◌}
use Rattle.pdh_bits.specs.Bits.{bit}

-- C bit j of subframe i, both from 1, of the 21 C bits as a number: C11 is its bit 20 and C73 its bit 0
abbrev pub c_bit : ℕ → ℕ → ℕ → Bool
c_bit c i j = bit c (24 - 3 * i - j)

-- the three C bits of a subframe
abbrev pub of_subframe : ℕ → ℕ → List Bool
of_subframe c i = c_bit c i 1 ∷ c_bit c i 2 ∷ c_bit c i 3 ∷ []
