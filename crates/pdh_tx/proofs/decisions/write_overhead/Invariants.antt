use Rattle.std.proofs.Common.{◌≡◌, ◌<◌, ◌+◌, ◌++◌, ℕ, false, length, get_or}
use Rattle.pdh_tx.specs.Node.{overhead_bit}
use Rattle.pdh_runs.proofs.Counts.{picked}
use Rattle.pdh_runs.specs.Tables.{is_overhead}
use Rattle.pdh_tx.proofs.decisions.write_overhead.Given as goal

-- the bits of the slots so far
abbrev pub invariant-loop-place : goal.invariant-loop-place
invariant-loop-place g l = record {
  capacity : l.into.capacity ≡ l.fn.into.capacity;
  count : l.from + length (l.into.bits ++ l.word) ≡ l.place;
  bits : (i : ℕ) → i < length (l.into.bits ++ l.word)
      → get_or (l.into.bits ++ l.word) i false ≡ overhead_bit g.S.Shape.shape l.say l.odd (g.D.Decisions.shares l.decisions) (g.S.Shape.shape.role (get_or (picked (is_overhead g.S.Shape.shape) g.S.Shape.shape.len) (l.from + i) 0));
}
