use Rattle.std.proofs.Common.{◌≡◌, ℕ, ◌+◌, false, length}
use Rattle.pdh_shape.specs.declared.role.Service.{Service}
use Rattle.pdh_tx.specs.Meaning.{plan_in}
use Rattle.pdh_tx.specs.Telling.{TellsAll}
use Rattle.pdh_chain.specs.Muxing.{SayInFrames, MakesBits}
use Rattle.pdh_chain.specs.Slipping.{slips_over}
use Rattle.pdh_chain.proofs.sending.make_bits.Given as goal

-- the bits so far are made and kept, and the log was told of their slips
abbrev pub invariant-loop-made : goal.invariant-loop-made
invariant-loop-made g l = record {
  running : g.T.Tx.is_stopped l.sender ≡ false;
  same_says : g.T.Tx.says l.sender ≡ g.T.Tx.says l.fn.sender;
  same : g.T.Tx.meaning l.sender ≡ g.T.Tx.meaning l.fn.sender;
  unfailed : g.F.Feed.feed_faults l.feed ≡ g.F.Feed.feed_faults l.fn.feed;
  fed : g.F.Feed.fed l.fn.feed l.feed;
  len : length l.frame.bits ≡ l._made;
  room : l.frame.capacity ≡ l.fn.frame.capacity;
  makes : (x : ℕ) (says : ℕ → Service) → g.T.Tx.stands_at l.fn.sender (plan_in l.fn.clock g.G.SlipLog.takes) x → SayInFrames (g.T.Tx.meaning l.fn.sender) says (g.T.Tx.says l.fn.sender) x (x + l.len)
      → MakesBits (g.T.Tx.meaning l.fn.sender) says (g.T.Tx.stands_at l.sender (plan_in l.fn.clock g.G.SlipLog.takes)) (g.T.Tx.stands_for l.fn.sender) (g.T.Tx.stands_for l.sender) (plan_in l.fn.clock g.G.SlipLog.takes) x (x + l._made) l.frame.bits (g.F.Feed.inputs l.fn.feed) (g.F.Feed.inputs l.feed);
  told : (x : ℕ) → g.T.Tx.stands_at l.fn.sender (plan_in l.fn.clock g.G.SlipLog.takes) x → TellsAll g.G.SlipLog l.fn.log l.log (slips_over (g.T.Tx.meaning l.fn.sender) (plan_in l.fn.clock g.G.SlipLog.takes) x l._made);
}
