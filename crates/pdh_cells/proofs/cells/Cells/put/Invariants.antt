use Rattle.std.proofs.Common.{◌≡◌, ℕ, ◌<◌, ◌≤◌, ◌⊎◌, get_or}
use Rattle.pdh_cells.specs.Contents.{blank, joined}
use Rattle.pdh_cells.proofs.cells.Cells.put.Given as goal

-- the first of these cells have it, and all others are as before
abbrev pub invariant-loop-index : goal.invariant-loop-index
invariant-loop-index l = record {
  done : (cell : ℕ) → l.first ≤ cell → cell < l.index → get_or l.self.cells.items cell blank ≡ joined (get_or l.fn.self.cells.items cell blank) l.more;
  same : (cell : ℕ) → (cell < l.first) ⊎ (l.index ≤ cell) → get_or l.self.cells.items cell blank ≡ get_or l.fn.self.cells.items cell blank;
  shift : l.self.shift ≡ l.fn.self.shift;
  used : l.end ≤ l.self.used;
}
