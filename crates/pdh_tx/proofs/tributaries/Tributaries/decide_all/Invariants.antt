use Rattle.std.proofs.Common.{◌≡◌, ◌<◌, ◌≤◌, ℕ, map, length, Some, slice_get}
use Rattle.pdh_tx.specs.Meaning.{plan_of}
use Rattle.pdh_tx.specs.Tributary.{child_in, store_in, share_in, would_carry}
use Rattle.pdh_tx.proofs.tributaries.Tributaries.decide_all.Given as goal

abbrev pub invariant-loop-trib : goal.invariant-loop-trib
invariant-loop-trib g l =
    record {
      child : map child_in l.self.list.items ≡ map child_in l.fn.self.list.items;
      store : map store_in l.self.list.items ≡ map store_in l.fn.self.list.items;
      long : length l.self.list.items ≡ length l.fn.self.list.items;
      more : (j : ℕ) (w : _) → j < l.trib → slice_get l.self.list.items j ≡ Some w → (share_in w).more ≡ would_carry w;
      arriving : (j : ℕ) (w : _) → j < l.trib → slice_get l.self.list.items j ≡ Some w → (share_in w).arriving ≡ (plan_of l.clock).counts l.fn.path j l.frame;
      fits : (j : ℕ) → j < l.trib → (plan_of l.clock).counts l.fn.path j l.frame ≤ g.S.Shape.LEN;
    }
