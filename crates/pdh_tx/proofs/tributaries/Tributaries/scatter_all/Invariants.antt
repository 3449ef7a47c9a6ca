use Rattle.std.proofs.Common.{◌≡◌, ◌<◌, ◌≤◌, ℕ, map, slice_get}
use Rattle.pdh_tx.specs.Tributary.{child_in, share_in}
use Rattle.pdh_tx.specs.Gathered.{HasLeft}
use Rattle.pdh_tx.proofs.tributaries.Tributaries.scatter_all.Given as goal

abbrev pub invariant-loop-trib : goal.invariant-loop-trib
invariant-loop-trib g l =
    record {
      child : map child_in l.self.list.items ≡ map child_in l.fn.self.list.items;
      shares : map share_in l.self.list.items ≡ map share_in l.fn.self.list.items;
      queues : l.self.queues ≡ l.fn.self.queues;
      store : (j : ℕ) → j < l.trib → HasLeft l.self j;
      rest : (j : ℕ) → l.trib ≤ j → slice_get l.self.list.items j ≡ slice_get l.fn.self.list.items j;
    }
