-- The parity of bits.
use Rattle.std.specs.Prelude.{◌%◌, Bool, ◌==◌, List, count_by}

-- an odd number of these bits is 1
abbrev pub odd_ones : List Bool → Bool
odd_ones bits = count_by (λ bit. bit) bits % 2 == 1
