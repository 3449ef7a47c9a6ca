use Rattle.std.proofs.Common.{◌≡◌, ◌<◌, ℕ, map, length}
use Rattle.pdh_tx.specs.Meaning.{plan_of}
use Rattle.pdh_tx.specs.Tributary.{child_in, store_in}
use Rattle.pdh_tx.specs.Gathered.{DecideFrom}
use Rattle.pdh_tx.proofs.tributaries.Tributaries.decide_gathered.Given as goal

abbrev pub invariant-loop-trib : goal.invariant-loop-trib
invariant-loop-trib g l =
    record {
      child : map child_in l.self.list.items ≡ map child_in l.fn.self.list.items;
      store : map store_in l.self.list.items ≡ map store_in l.fn.self.list.items;
      long : length l.self.list.items ≡ length l.fn.self.list.items;
      queues : l.self.queues ≡ l.fn.self.queues;
      decided : (j : ℕ) → j < l.trib → DecideFrom l.self l.fn.path (plan_of l.fn.clock) l.fn.frame j;
    }
