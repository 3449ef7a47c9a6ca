use Rattle.std.proofs.Common.{◌≡◌}
use Rattle.pdh_tx.specs.Meaning.{plan_in}
use Rattle.pdh_tx.specs.Telling.{TellsNone}
use Rattle.pdh_locked.specs.Children.{meanings}
use Rattle.pdh_locked.specs.Gathered.{HaveGathered, GatherOn}
use Rattle.pdh_locked.proofs.children.Children.gather_all.Given as goal

-- the children so far gathered their bits
abbrev pub invariant-loop-trib : goal.invariant-loop-trib
invariant-loop-trib g l =
    record {
      placed : HaveGathered l.self (plan_in l.fn.clock g.G.SlipLog.takes) l.fn.slots l.trib;
      gathers : GatherOn l.fn.self l.self (plan_in l.fn.clock g.G.SlipLog.takes) l.fn.slots 0 l.trib (g.F.Feed.inputs l.fn.feed) (g.F.Feed.inputs l.feed);
      unfailed : g.F.Feed.feed_faults l.feed ≡ g.F.Feed.feed_faults l.fn.feed;
      fed : g.F.Feed.fed l.fn.feed l.feed;
      told : TellsNone g.G.SlipLog l.fn.log l.log;
      same : meanings l.self ≡ meanings l.fn.self;
    }
