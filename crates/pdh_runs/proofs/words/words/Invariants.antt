use Rattle.std.proofs.Common.{◌<◌, ◌≤◌, ◌+◌, ◌*◌, ℕ, length, get_or}
use Rattle.pdh_shape.specs.Payload.{payload_before}
use Rattle.pdh_runs.specs.declared.words.WordAt.{WordAt}
use Rattle.pdh_runs.specs.WordTables.{IsWordAt}
use Rattle.pdh_runs.proofs.words.words.Given as goal

-- the words so far, to the payload slot before this slot
abbrev pub invariant-loop-slot : goal.invariant-loop-slot
invariant-loop-slot g l = record {
  all : payload_before g.S.Shape.shape l.slot ≤ l.size * length l.words.items;
  few : l.size * length l.words.items ≤ payload_before g.S.Shape.shape l.slot + l.size;
  each : (index : ℕ) (at : WordAt) → index < length l.words.items → IsWordAt g.S.Shape.shape (l.size * index) l.size (get_or l.words.items index at);
}
