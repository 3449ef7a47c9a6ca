-- Bits of tributaries in turn.
use Rattle.std.specs.Prelude.{ℕ, suc, ◌+◌, ◌*◌, ◌/◌, ◌%◌, ◌^◌, Bool, true, false, List, [], ◌∷◌, ◌++◌, length, get_or, map, fold}
use Rattle.std.specs.List.{range_with_len}
use Rattle.pdh_bits.specs.Bits.{bit_value}
use Rattle.pdh_bits.specs.BitOut.{BoundedBits}
use Rattle.pdh_packed.specs.Words.{bounded}
use Rattle.pdh_packed.specs.Places.{differs}

-- bit s of the line is bit s / T of tributary s mod T, where there are T tributaries
abbrev pub bit_in_turn : List (List Bool) → ℕ → Bool
bit_in_turn tributaries s = get_or (get_or tributaries (s % length tributaries) []) (s / length tributaries) false

-- so many bits of each tributary in turn
unfoldable pub interleaved : List (List Bool) → ℕ → List Bool
interleaved tributaries each = map (bit_in_turn tributaries) (range_with_len 0 (each * length tributaries))

-- the bits of a line that are those of tributary j, where there are so many tributaries: its bit i is bit i * T + j of the line
abbrev pub column : ℕ → ℕ → List Bool → ℕ → List Bool
column tributaries each line j = map (λ i. get_or line (i * tributaries + j) false) (range_with_len 0 each)

-- lists that each get bits, the first of them those of number j
abbrev pub appended_to_each : (ℕ → List Bool) → ℕ → List BoundedBits → List BoundedBits
appended_to_each more j [] = []
appended_to_each more j (list ∷ lists) = bounded list.capacity (list.bits ++ more j) ∷ appended_to_each more (suc j) lists

-- the lists of tributaries after the bits of a line were dealt out to them in turn, so many to each
unfoldable pub dealt : ℕ → List Bool → List BoundedBits → List BoundedBits
dealt each line lists = appended_to_each (column (length lists) each line) 0 lists

-- of two bits that which is wanted, and whether they differ where both are
abbrev pub picked : Bool → Bool → Bool → Bool → Bool
picked true false x y = x
picked false true x y = y
picked false false x y = false
picked true true x y = differs x y

-- a number with a bit so many places after its own
abbrev pub with_bit_apart : ℕ → ℕ → Bool → ℕ
with_bit_apart apart n b = 2 ^ apart * n + bit_value b

-- the number that bits write with so many places from each to the next
abbrev pub spread : ℕ → List Bool → ℕ
spread apart bits = fold (with_bit_apart apart) 0 bits
