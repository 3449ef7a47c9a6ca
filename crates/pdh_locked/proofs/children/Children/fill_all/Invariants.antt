use Rattle.std.proofs.Common.{◌≡◌}
use Rattle.pdh_tx.specs.Meaning.{plan_in}
use Rattle.pdh_tx.specs.Telling.{TellsNone}
use Rattle.pdh_tx.specs.Passing.{HoldsBits, HasRows}
use Rattle.pdh_locked.specs.Children.{meanings, columns, HaveFilled, FillOn}
use Rattle.pdh_locked.proofs.children.Children.fill_all.Given as goal

-- the children so far filled their columns
abbrev pub invariant-loop-trib : goal.invariant-loop-trib
invariant-loop-trib g l =
    record {
      placed : HaveFilled l.self (plan_in l.clock g.G.SlipLog.takes) l.frame l.slot l.len l.trib;
      fills : FillOn l.fn.self l.self (plan_in l.clock g.G.SlipLog.takes) l.frame l.slot l.len 0 l.trib (g.F.Feed.inputs l.fn.feed) (g.F.Feed.inputs l.feed) (λ source. HoldsBits g.S.Shape.shape source l.frame l.slot l.len (columns l.self) l.trib);
      rows : HasRows g.S.Shape.shape l.slot l.len (columns l.self) l.trib;
      unfailed : g.F.Feed.feed_faults l.feed ≡ g.F.Feed.feed_faults l.fn.feed;
      fed : g.F.Feed.fed l.fn.feed l.feed;
      told : TellsNone g.G.SlipLog l.fn.log l.log;
      same : meanings l.self ≡ meanings l.fn.self;
      overhead : l.self.scratch.overhead ≡ l.fn.self.scratch.overhead;
    }
