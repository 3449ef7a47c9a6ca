use Rattle.std.proofs.Common.{◌≡◌, ◌≤◌, ◌+◌, ◌-◌, ℕ, false}
use Rattle.pdh_packed.specs.Gaining.{gained, IsGrown}
use Rattle.pdh_tx.specs.Meaning.{plan_in}
use Rattle.pdh_tx.specs.Making.{MakesAll}
use Rattle.pdh_tx.specs.Telling.{TellsNone}
use Rattle.pdh_tx.specs.Body.{sender_meaning, SenderAt, SenderFor}
use Rattle.pdh_tx.proofs.sender.SenderTx.make_clear.Given as goal

-- the bits so far are made
abbrev pub invariant-loop-made : goal.invariant-loop-made
invariant-loop-made g l =
    let s = g.S.Shape.shape in
    let b = g.B.Body in
    let old = l.fn.self in
    let plan = plan_in l.clock g.G.SlipLog.takes in
    let new = l.self in
    record {
      upto : l.made ≤ l.count;
      grown : IsGrown l.fn.into l.into l.made;
      running : new.stopped ≡ false;
      same : sender_meaning s b.kind new.path (b.meanings new.body) ≡ sender_meaning s b.kind old.path (b.meanings old.body);
      same_says : new.next_say ≡ old.next_say;
      unfailed : g.F.Feed.feed_faults l.feed ≡ g.F.Feed.feed_faults l.fn.feed;
      fed : g.F.Feed.fed l.fn.feed l.feed;
      told : TellsNone g.G.SlipLog l.fn.log l.log;
      makes : (x : ℕ) → SenderAt s (b.stands old.body old.path plan) old.at x
          → MakesAll (sender_meaning s b.kind old.path (b.meanings old.body)) old.next_say (SenderAt s (b.stands new.body new.path plan) new.at)
          (λ supply y. SenderFor s (b.holds old.body old.path supply.plan supply) old.path (b.meanings old.body) old.at old.say supply)
          (λ supply y. SenderFor s (b.holds new.body new.path supply.plan supply) new.path (b.meanings new.body) new.at new.say supply)
          plan x (x + l.made) (gained l.fn.into l.into) (g.F.Feed.inputs l.fn.feed) (g.F.Feed.inputs l.feed);
    }

abbrev pub decreases-loop-made : goal.decreases-loop-made
decreases-loop-made g l = l.count - l.made
