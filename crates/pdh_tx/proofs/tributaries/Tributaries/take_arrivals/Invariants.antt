use Rattle.std.proofs.Common.{◌≡◌, map}
use Rattle.std.specs.Prelude.{flat_map}
use Rattle.std.specs.List.{range_with_len}
use Rattle.pdh_tx.specs.Meaning.{plan_in}
use Rattle.pdh_tx.specs.Telling.{TellsAll}
use Rattle.pdh_tx.specs.Tributary.{placed_in, held_in, meaning_in, share_in}
use Rattle.pdh_tx.specs.Node.{Advance, came_to, arrival_at, arrival_slips}
use Rattle.pdh_tx.specs.Slipping.{arriving_to}
use Rattle.pdh_tx.proofs.tributaries.Tributaries.take_arrivals.Given as goal

abbrev pub invariant-loop-trib : goal.invariant-loop-trib
invariant-loop-trib g l =
    record {
      advance : Advance (placed_in g.C.Tx) (held_in g.C.Tx) (map (meaning_in g.C.Tx) l.fn.self.list.items) (plan_in l.clock g.G.SlipLog.takes) l.fn.self.list.items l.self.list.items
          (came_to g.S.Shape.shape l.path (plan_in l.clock g.G.SlipLog.takes) l.frame l.slot 0) (came_to g.S.Shape.shape l.path (plan_in l.clock g.G.SlipLog.takes) l.frame l.slot l.trib) (arriving_to g.S.Shape.shape l.path (plan_in l.clock g.G.SlipLog.takes) l.frame l.slot 0) (arriving_to g.S.Shape.shape l.path (plan_in l.clock g.G.SlipLog.takes) l.frame l.slot l.trib)
          (λ size. flat_map (arrival_at g.S.Shape.shape l.path (plan_in l.clock g.G.SlipLog.takes) (map (meaning_in g.C.Tx) l.fn.self.list.items) size l.frame l.slot) (range_with_len 0 l.trib)) (g.F.Feed.inputs l.fn.feed) (g.F.Feed.inputs l.feed);
      unfailed : g.F.Feed.feed_faults l.feed ≡ g.F.Feed.feed_faults l.fn.feed;
      fed : g.F.Feed.fed l.fn.feed l.feed;
      same : map (meaning_in g.C.Tx) l.self.list.items ≡ map (meaning_in g.C.Tx) l.fn.self.list.items;
      shares : map share_in l.self.list.items ≡ map share_in l.fn.self.list.items;
      told : TellsAll g.G.SlipLog l.fn.log l.log
          (flat_map (arrival_slips g.S.Shape.shape l.path (plan_in l.clock g.G.SlipLog.takes) (map (meaning_in g.C.Tx) l.fn.self.list.items) l.frame l.slot) (range_with_len 0 l.trib));
    }
