-- How the bits of a recording lie in the cells of a picture. Fine cells have the least power of two of bits with which 4,096 of
-- them suffice; they are drawn in 430 cells.
use Rattle.std.specs.Prelude.{ℕ, ◌+◌, ◌*◌, ◌/◌, ◌-◌, ◌^◌, ◌≤◌, ◌==◌, min, max, if◌then◌else◌}
use Rattle.std.specs.Int.{div_ceil}

-- 2 ^ shift is the least power of two with which 4,096 fine cells of so many bits hold the bits of a recording
pub record IsShift (bits shift : ℕ) : Type 0 where
  pub enough : bits ≤ 4096 * 2 ^ shift
  pub least : (other : ℕ) → bits ≤ 4096 * 2 ^ other → shift ≤ other

-- the fine cells of a recording; one without bits has one
abbrev pub fine_cells : ℕ → ℕ → ℕ
fine_cells bits shift = max (div_ceil bits (2 ^ shift)) 1

-- the cell in which a bit is drawn, counted from the first that was read; bits behind the last are drawn in the last fine cell
abbrev pub cell_of : ℕ → ℕ → ℕ → ℕ
cell_of bits shift bit = min (bit / 2 ^ shift) (fine_cells bits shift - 1) * 430 / fine_cells bits shift

-- how many cells there are up to the last that holds one of the first bits
abbrev pub cells_of_first : ℕ → ℕ → ℕ → ℕ
cells_of_first bits shift first = if first == 0 then 0 else cell_of bits shift (first - 1) + 1

-- the bit with which a cell begins, counted from the first that was read
abbrev pub start_of : ℕ → ℕ → ℕ → ℕ
start_of bits shift cell = min bits (div_ceil (cell * fine_cells bits shift) 430 * 2 ^ shift)
