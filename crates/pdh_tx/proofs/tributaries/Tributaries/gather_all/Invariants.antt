use Rattle.std.proofs.Common.{◌≡◌, map}
use Rattle.pdh_tx.specs.Meaning.{plan_in}
use Rattle.pdh_tx.specs.Telling.{TellsNone}
use Rattle.pdh_tx.specs.Tributary.{share_in}
use Rattle.pdh_tx.specs.Tributaries.{meanings}
use Rattle.pdh_tx.specs.Gathered.{HaveGathered, GatherOn, AreEmptied}
use Rattle.pdh_tx.proofs.tributaries.Tributaries.gather_all.Given as goal

-- the tributaries so far gathered their bits
abbrev pub invariant-loop-trib : goal.invariant-loop-trib
invariant-loop-trib g l =
    record {
      placed : HaveGathered l.self (plan_in l.fn.clock g.G.SlipLog.takes) l.fn.next l.trib;
      gathers : GatherOn l.fn.self l.self (plan_in l.fn.clock g.G.SlipLog.takes) l.fn.next 0 l.trib (g.F.Feed.inputs l.fn.feed) (g.F.Feed.inputs l.feed);
      emptied : AreEmptied l.self l.trib;
      unfailed : g.F.Feed.feed_faults l.feed ≡ g.F.Feed.feed_faults l.fn.feed;
      fed : g.F.Feed.fed l.fn.feed l.feed;
      told : TellsNone g.G.SlipLog l.fn.log l.log;
      same : meanings l.self ≡ meanings l.fn.self;
      shares : map share_in l.self.list.items ≡ map share_in l.fn.self.list.items;
    }
