use Rattle.std.proofs.Common.{◌≡◌, ℕ, ◌+◌, ◌*◌, ◌<◌, ◌≤◌, get_or}
use Rattle.pdh_cells.specs.Contents.{blank, joined}
use Rattle.pdh_cells.proofs.cells.Cells.join_pairs.Given as goal

-- the first cells are joined, and the others are as before
abbrev pub invariant-loop-index : goal.invariant-loop-index
invariant-loop-index l = record {
  done : (cell : ℕ) → cell < l.index → get_or l.self.cells.items cell blank
      ≡ joined (get_or l.fn.self.cells.items (2 * cell) blank) (get_or l.fn.self.cells.items (2 * cell + 1) blank);
  same : (cell : ℕ) → l.index ≤ cell → get_or l.self.cells.items cell blank ≡ get_or l.fn.self.cells.items cell blank;
  shift : l.self.shift ≡ l.fn.self.shift;
  used : l.self.used ≡ l.fn.self.used;
}
