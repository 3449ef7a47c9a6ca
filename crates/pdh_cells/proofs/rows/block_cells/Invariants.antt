use Rattle.std.proofs.Common.{◌≡◌, ℕ, ◌<◌, get_or, length}
use Rattle.pdh_cells.specs.Contents.{blank}
use Rattle.pdh_cells.proofs.rows.block_cells.Given as goal

-- the first cells are done
abbrev pub invariant-loop-index : goal.invariant-loop-index
invariant-loop-index l = record { done : (cell : ℕ) → cell < l.index → get_or l.counts cell 0 ≡ (get_or l.cells cell blank).near; len : length l.counts ≡ 430 }
