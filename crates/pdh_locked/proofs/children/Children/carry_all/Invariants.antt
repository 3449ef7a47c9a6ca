use Rattle.std.proofs.Common.{◌≡◌, ◌<◌, ◌≤◌, ℕ, slice_get}
use Rattle.pdh_locked.specs.Gathered.{Carry}
use Rattle.pdh_locked.proofs.children.Children.carry_all.Given as goal

abbrev pub invariant-loop-trib : goal.invariant-loop-trib
invariant-loop-trib g l =
    record {
      list : l.self.list ≡ l.fn.self.list;
      overhead : l.self.scratch.overhead ≡ l.fn.self.scratch.overhead;
      carried : (j : ℕ) → j < l.trib → Carry l.fn.self l.self l.fn.at j;
      rest : (j : ℕ) → l.trib ≤ j → slice_get l.self.queues.items j ≡ slice_get l.fn.self.queues.items j;
    }
