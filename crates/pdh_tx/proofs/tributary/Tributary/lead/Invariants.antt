use Rattle.std.proofs.Common.{◌≡◌, ◌<◌, ℕ, None}
use Rattle.std.specs.Prelude.{flat_map}
use Rattle.std.specs.List.{range_with_len}
use Rattle.pdh_tx.specs.Meaning.{plan_in, Fits}
use Rattle.pdh_tx.specs.Held.{Placed, Held, unslipped, Gains}
use Rattle.pdh_tx.specs.Telling.{TellsAll}
use Rattle.pdh_tx.proofs.tributary.Tributary.lead.Given as goal

abbrev pub invariant-loop-taken : goal.invariant-loop-taken
invariant-loop-taken g l =
    record {
      placed : Placed g.C.Tx.stands_at g.C.Tx.says g.C.Tx.is_stopped l.self.child l.self.store (plan_in l.clock g.G.SlipLog.takes) l._taken (unslipped 0);
      gains : Gains (g.C.Tx.meaning l.fn.self.child) (plan_in l.clock g.G.SlipLog.takes) (Held g.C.Tx.stands_for g.C.Tx.meaning l.fn.self.child l.fn.self.store) (Held g.C.Tx.stands_for g.C.Tx.meaning l.self.child l.self.store) 0 l._taken (unslipped 0) (unslipped 0) (g.F.Feed.inputs l.fn.feed) (g.F.Feed.inputs l.feed);
      free : (size : ℕ → ℕ) → Fits (g.C.Tx.meaning l.fn.self.child) (plan_in l.clock g.G.SlipLog.takes) 0 (g.F.Feed.inputs l.fn.feed) size → (k : ℕ) → k < l._taken → (g.C.Tx.meaning l.fn.self.child).obstacle (plan_in l.clock g.G.SlipLog.takes) size k ≡ None;
      unfailed : g.F.Feed.feed_faults l.feed ≡ g.F.Feed.feed_faults l.fn.feed;
      fed : g.F.Feed.fed l.fn.feed l.feed;
      same : g.C.Tx.meaning l.self.child ≡ g.C.Tx.meaning l.fn.self.child;
      share : l.self.share ≡ l.fn.self.share;
      told : TellsAll g.G.SlipLog l.fn.log l.log (flat_map ((g.C.Tx.meaning l.fn.self.child).slips (plan_in l.clock g.G.SlipLog.takes)) (range_with_len 0 l._taken));
    }
