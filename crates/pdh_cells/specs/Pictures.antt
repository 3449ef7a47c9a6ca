-- The cells of a picture.
use Rattle.std.specs.Prelude.{◌≡◌, ℕ, ◌+◌, ◌-◌, ◌*◌, ◌/◌, ◌^◌, ◌<◌, ◌≤◌, ◌==◌, List, fold, map, filter, get_or}
use Rattle.std.specs.List.{range_with_len}
use Rattle.pdh_cells.specs.declared.cell.Cell.{Cell}
use Rattle.pdh_cells.specs.Lanes.{Lanes}
use Rattle.pdh_cells.specs.Contents.{fine_cell, contents, blank, joined}

-- 2 ^ shift is the least power of two with which 4,096 fine cells of so many bits hold the bits of a line
pub record IsShift (bits shift : ℕ) : Type 0 where
  pub enough : bits ≤ 4096 * 2 ^ shift
  pub least : (other : ℕ) → bits ≤ 4096 * 2 ^ other → shift ≤ other

-- how many fine cells the bits of a line fill, the last of them in part perhaps
abbrev pub fine_cells : ℕ → ℕ → ℕ
fine_cells shift bits = fine_cell shift (bits - 1) + 1

-- the cell of a picture in which one of so many fine cells is drawn
abbrev pub drawn_in : ℕ → ℕ → ℕ
drawn_in count fine = fine * 430 / count

-- the fine cells that are drawn in a cell
abbrev pub drawn_cells : ℕ → ℕ → List ℕ
drawn_cells count cell = filter (λ fine. drawn_in count fine == cell) (range_with_len 0 count)

-- what a cell of a picture holds
abbrev pub drawn : ℕ → ℕ → Lanes → ℕ → Cell
drawn shift count lanes cell = fold joined blank (map (contents shift lanes) (drawn_cells count cell))

-- these are the cells of the picture of a line of so many bits
pub record ArePicture (bits : ℕ) (lanes : Lanes) (cells : List Cell) : Type 0 where
  pub shift : ℕ
  pub is_shift : IsShift bits shift
  pub are_drawn : (cell : ℕ) → cell < 430 → get_or cells cell blank ≡ drawn shift (fine_cells shift bits) lanes cell
