use Rattle.std.proofs.Common.{◌≡◌}
use Rattle.std.specs.Prelude.{flat_map}
use Rattle.std.specs.List.{range_with_len}
use Rattle.pdh_tx.specs.Meaning.{plan_in}
use Rattle.pdh_tx.specs.Held.{unslipped}
use Rattle.pdh_tx.specs.Tributary.{placed_in, held_in}
use Rattle.pdh_tx.specs.Node.{Advance, led_to, lead_at, lead_slips}
use Rattle.pdh_tx.specs.Telling.{TellsAll}
use Rattle.pdh_tx.specs.Tributaries.{meanings}
use Rattle.pdh_tx.proofs.tributaries.Tributaries.take_leads.Given as goal

abbrev pub invariant-loop-trib : goal.invariant-loop-trib
invariant-loop-trib g l =
    record {
      advance : Advance (placed_in g.C.Tx) (held_in g.C.Tx) (meanings l.fn.self) (plan_in l.clock g.G.SlipLog.takes) l.fn.self.list.items l.self.list.items (led_to 0) (led_to l.trib) (λ j. unslipped 0) (λ j. unslipped 0)
          (λ size. flat_map (lead_at (plan_in l.clock g.G.SlipLog.takes) (meanings l.fn.self) size) (range_with_len 0 l.trib)) (g.F.Feed.inputs l.fn.feed) (g.F.Feed.inputs l.feed);
      unfailed : g.F.Feed.feed_faults l.feed ≡ g.F.Feed.feed_faults l.fn.feed;
      fed : g.F.Feed.fed l.fn.feed l.feed;
      same : meanings l.self ≡ meanings l.fn.self;
      told : TellsAll g.G.SlipLog l.fn.log l.log (flat_map (lead_slips (plan_in l.clock g.G.SlipLog.takes) (meanings l.fn.self)) (range_with_len 0 l.trib));
    }
