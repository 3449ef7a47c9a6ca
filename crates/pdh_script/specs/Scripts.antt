-- Scripts: what becomes of a line, by the places of its bits. The first bit has place 0.
use Rattle.std.specs.Prelude.{◌≡◌, ℕ, ◌+◌, ◌≤◌, Bool, true, false, not, List, [], ◌∷◌, ◌++◌, map, length, drop, slice_range, refl}
use Rattle.pdh_bits.specs.Bits.{bits_of}

-- bits of the line, so many of them, are inverted, set to 1, set to 0 or left out; or the bits of bytes are added
pub data Change : Type 0 where
  Flip : ℕ → Change
  Ones : ℕ → Change
  Zeros : ℕ → Change
  Drop : ℕ → Change
  Add : List ℕ → Change

-- a change of the bits from a place on; bits are added before the bit of that place
pub record Row : Type 0 where
  pub at : ℕ
  pub change : Change

-- how many bits of the line are changed
abbrev pub bits_changed : Change → ℕ
bits_changed (Flip n) = n
bits_changed (Ones n) = n
bits_changed (Zeros n) = n
bits_changed (Drop n) = n
bits_changed (Add bytes) = 0

-- the place behind the bits that a row changes
abbrev pub end_of : Row → ℕ
end_of row = row.at + bits_changed row.change

-- the rows are in order from a place on, and none ends behind so many bits
abbrev pub FitFrom : ℕ → ℕ → List Row → Type 0
FitFrom place bits [] = Unit {0}
FitFrom place bits (row ∷ rows) = (place ≤ row.at) × (end_of row ≤ bits) × FitFrom (end_of row) bits rows

-- the rows are in order, and none ends behind so many bits
abbrev pub FitIn : ℕ → List Row → Type 0
FitIn bits rows = FitFrom 0 bits rows

-- the bytes that a change adds
abbrev pub bytes_of : Change → List ℕ
bytes_of (Add bytes) = bytes
bytes_of (Flip n) = []
bytes_of (Ones n) = []
bytes_of (Zeros n) = []
bytes_of (Drop n) = []

-- how many bytes rows add
abbrev pub bytes_added : List Row → ℕ
bytes_added [] = 0
bytes_added (row ∷ rows) = length (bytes_of row.change) + bytes_added rows

-- what becomes of the bits that a row changes
abbrev pub altered : Change → List Bool → List Bool
altered (Flip n) part = map not part
altered (Ones n) part = map (λ bit. true) part
altered (Zeros n) part = map (λ bit. false) part
altered (Drop n) part = []
altered (Add bytes) part = bits_of bytes

-- the bits of a line from a place on, with the parts that rows change altered
abbrev pub disturbed_from : ℕ → List Bool → List Row → List Bool
disturbed_from place line [] = drop place line
disturbed_from place line (row ∷ rows) =
    slice_range line place row.at ++ altered row.change (slice_range line row.at (end_of row)) ++ disturbed_from (end_of row) line rows

-- the disturbed line: the parts that no row changes stay, between them stands what becomes of the others
abbrev pub disturbed : List Bool → List Row → List Bool
disturbed line rows = disturbed_from 0 line rows

-- ---- worked by the checker

abbrev pub row : ℕ → Change → Row
row at change = record { at = at; change = change }

abbrev pub four_bits : List Bool
four_bits = true ∷ false ∷ true ∷ true ∷ []

abbrev pub eight_ones : List Bool
eight_ones = true ∷ true ∷ true ∷ true ∷ true ∷ true ∷ true ∷ true ∷ []

abbrev pub eight_zeros : List Bool
eight_zeros = false ∷ false ∷ false ∷ false ∷ false ∷ false ∷ false ∷ false ∷ []

-- each change of two bits from place 1 on
pub flipped : disturbed four_bits (row 1 (Flip 2) ∷ []) ≡ true ∷ true ∷ false ∷ true ∷ []
flipped = refl

pub set_to_ones : disturbed four_bits (row 1 (Ones 2) ∷ []) ≡ true ∷ true ∷ true ∷ true ∷ []
set_to_ones = refl

pub set_to_zeros : disturbed four_bits (row 1 (Zeros 2) ∷ []) ≡ true ∷ false ∷ false ∷ true ∷ []
set_to_zeros = refl

pub left_out : disturbed four_bits (row 1 (Drop 2) ∷ []) ≡ true ∷ true ∷ []
left_out = refl

-- bytes that are added at one place stand in the order of their rows
pub added_twice : disturbed four_bits (row 1 (Add (0xFF ∷ [])) ∷ row 1 (Add (0 ∷ [])) ∷ []) ≡ true ∷ eight_ones ++ eight_zeros ++ false ∷ true ∷ true ∷ []
added_twice = refl

-- bytes may be added at the end of the line
pub added_behind : disturbed four_bits (row 4 (Add (0xFF ∷ [])) ∷ []) ≡ four_bits ++ eight_ones
added_behind = refl

-- bytes may be added where bits that are left out end
pub added_after_drop : disturbed four_bits (row 1 (Drop 2) ∷ row 3 (Add (0xFF ∷ [])) ∷ []) ≡ true ∷ eight_ones ++ true ∷ []
added_after_drop = refl
