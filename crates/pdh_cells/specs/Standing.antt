-- What is kept of what came over a line.
use Rattle.std.specs.Prelude.{◌≡◌, ℕ, ◌*◌, ◌^◌, ◌<◌, ◌≤◌, nat_le, ◌&&◌, if◌then◌else◌, List, [], ◌∷◌, get_or}
use Rattle.pdh_cells.specs.declared.cell.Cell.{Cell}
use Rattle.pdh_cells.specs.declared.cell.Code.{Code}
use Rattle.pdh_cells.specs.declared.cells.Cells.{Cells}
use Rattle.pdh_cells.specs.Lanes.{Lanes}
use Rattle.pdh_cells.specs.Contents.{fine_cell, contents, blank, joined}

-- each of these codes comes at a bit or later
abbrev pub AreFrom : ℕ → List Code → Type 0
AreFrom place [] = Unit {0}
AreFrom place (code ∷ codes) = (place ≤ code.place) × AreFrom place codes

-- these codes come in order, before a bit
abbrev pub AreInOrder : ℕ → List Code → Type 0
AreInOrder end [] = Unit {0}
AreInOrder end (code ∷ later) = (code.place < end) × AreFrom code.place later × AreInOrder end later

-- what is kept stands for what came before a bit
pub record StandsFor (kept : Cells) (lanes : Lanes) (end : ℕ) : Type 0 where
  pub each : (cell : ℕ) → get_or kept.cells.items cell blank ≡ contents kept.shift lanes cell
  -- the fine cells aren't wider than those of any line that has these bits
  pub narrow : (shift : ℕ) → end ≤ 4096 * 2 ^ shift → kept.shift ≤ shift
  pub in_order : AreInOrder end lanes.codes

-- the fine cells of the bits from one to another hold something more, and all others are as before
abbrev pub Puts : Cells → Cells → ℕ → ℕ → Cell → Type 0
Puts kept new from last more =
    (cell : ℕ) → get_or new.cells.items cell blank
    ≡ (if nat_le (fine_cell kept.shift from) cell && nat_le cell (fine_cell kept.shift last) then joined (get_or kept.cells.items cell blank) more else get_or kept.cells.items cell blank)
