use Rattle.std.proofs.Common.{◌≡◌, ◌≤◌, ◌+◌, ◌-◌, ◌*◌, ℕ}
use Rattle.pdh_packed.specs.Gaining.{gained, IsGrown}
use Rattle.pdh_tx.specs.Meaning.{plan_in}
use Rattle.pdh_tx.specs.Telling.{TellsNone}
use Rattle.pdh_tx.specs.Body.{sender_meaning, SenderAt, SenderFor}
use Rattle.pdh_tx.proofs.MakingAhead.{MakesAhead}
use Rattle.pdh_tx.proofs.sender.Sender.make_gathered.Given as goal

-- the bits so far are made of what was gathered
abbrev pub invariant-loop-made : goal.invariant-loop-made
invariant-loop-made g l =
    let s = g.S.Shape.shape in
    let b = g.B.Body in
    let old = l.fn.self in
    let new = l.self in
    let plan = plan_in l.fn.clock g.G.SlipLog.takes in
    let end : ℕ = old.at.frame * s.len + old.at.slot + l.fn.count in
    record {
      upto : l.made ≤ l.fn.count;
      grown : IsGrown l.fn.into l.into l.made;
      running : new.stopped ≡ old.stopped;
      same : b.meanings new.body ≡ b.meanings old.body;
      same_path : new.path ≡ old.path;
      same_says : new.next_say ≡ old.next_say;
      unfailed : g.F.Feed.feed_faults l.feed ≡ g.F.Feed.feed_faults l.fn.feed;
      fed : g.F.Feed.fed l.fn.feed l.feed;
      told : TellsNone g.G.SlipLog l.fn.log l.log;
      makes : (x : ℕ) → SenderAt s (b.stands old.body old.path plan) old.at x
          → MakesAhead (sender_meaning s b.kind old.path (b.meanings old.body)) old.next_say (SenderAt s (λ n t. b.gathered new.body new.path plan n t end) new.at)
          (λ supply y. SenderFor s (b.holds old.body old.path supply.plan supply) old.path (b.meanings old.body) old.at old.say supply)
          (λ supply y. SenderFor s (λ n t. b.holds_gathered new.body new.path supply.plan supply n t end) new.path (b.meanings new.body) new.at new.say supply)
          plan x (x + l.made) (x + l.fn.count) (gained l.fn.into l.into) (g.F.Feed.inputs l.fn.feed) (g.F.Feed.inputs l.feed);
    }

abbrev pub decreases-loop-made : goal.decreases-loop-made
decreases-loop-made g l = l.fn.count - l.made
