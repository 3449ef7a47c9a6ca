-- The bits that the low bits of a number write.
use Rattle.std.specs.Prelude.{ℕ, zero, suc, Bool, List, [], ◌∷◌}
use Rattle.std.specs.List.{flat_map}
use Rattle.pdh_bits.specs.Bits.{bit}
use Rattle.pdh_bits.specs.BitOut.{BoundedBits}

-- the low bits of a number, so many, the most significant first
unfoldable pub low_bits : ℕ → ℕ → List Bool
low_bits zero n = []
low_bits (suc k) n = bit n k ∷ low_bits k n

-- the bits of words of 64
unfoldable pub bits_of_words : List ℕ → List Bool
bits_of_words words = flat_map (low_bits 64) words

-- bits and how many there may be
abbrev pub bounded : ℕ → List Bool → BoundedBits
bounded capacity bits = record { capacity = capacity; bits = bits }
