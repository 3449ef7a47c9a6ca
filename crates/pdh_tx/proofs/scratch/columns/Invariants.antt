use Rattle.std.proofs.Common.{◌≡◌, ◌≤◌, All, length}
use Rattle.pdh_tx.proofs.scratch.columns.Given as goal

-- the lists so far are empty and have room
abbrev pub invariant-loop-column : goal.invariant-loop-column
invariant-loop-column l = record {
  count : length l.columns.items ≡ l._column;
  room : All (λ column. l.capacity ≤ column.capacity) l.columns.items;
}
