use Rattle.std.proofs.Common.{◌≡◌}
use Rattle.pdh_tx.specs.Meaning.{plan_in}
use Rattle.pdh_tx.specs.Telling.{TellsNone}
use Rattle.pdh_tx.specs.Passing.{HoldsBits, HasRows}
use Rattle.pdh_tx.specs.Tributaries.{meanings, shares, columns, HavePassed, PassOn}
use Rattle.pdh_tx.proofs.tributaries.Tributaries.pass_all.Given as goal

-- the tributaries so far passed their bits
abbrev pub invariant-loop-trib : goal.invariant-loop-trib
invariant-loop-trib g l =
    record {
      placed : HavePassed l.self (plan_in l.clock g.G.SlipLog.takes) l.at l.trib;
      passes : PassOn l.fn.self l.self (plan_in l.clock g.G.SlipLog.takes) l.at 0 l.trib (g.F.Feed.inputs l.fn.feed) (g.F.Feed.inputs l.feed) (λ source. HoldsBits g.S.Shape.shape source l.at.frame l.at.slot l.at.len (columns l.self) l.trib);
      rows : HasRows g.S.Shape.shape l.at.slot l.at.len (columns l.self) l.trib;
      unfailed : g.F.Feed.feed_faults l.feed ≡ g.F.Feed.feed_faults l.fn.feed;
      fed : g.F.Feed.fed l.fn.feed l.feed;
      told : TellsNone g.G.SlipLog l.fn.log l.log;
      same : meanings l.self ≡ meanings l.fn.self;
      shares : shares l.self ≡ shares l.fn.self;
      overhead : l.self.scratch.overhead ≡ l.fn.self.scratch.overhead;
    }
