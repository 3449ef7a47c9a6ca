use Rattle.std.proofs.Common.{◌≡◌, ◌+◌, ◌-◌, ◌*◌, ◌≤◌, false, Ok}
use Rattle.pdh_edge.specs.Ports.{only_waiting}
use Rattle.pdh_edge.specs.Progress.{Works, port_faults}
use Rattle.pdh_tx.specs.Meaning.{plan_in}
use Rattle.pdh_tx.specs.Making.{IsUneventful}
use Rattle.pdh_tx.specs.Telling.{TellsAll}
use Rattle.pdh_chain.specs.Calls.{SendStopsBy}
use Rattle.pdh_chain.specs.Slipping.{slips_over}
use Rattle.pdh_chain.specs.Faults.{counted_at_send_stop}
use Rattle.pdh_chain.specs.Saying.{says_of, HasSaid}
use Rattle.pdh_chain.proofs.Frames.{Sending}
use Rattle.pdh_chain.proofs.sending.send_frames.Given as goal

-- the frames so far are sent, and the log was told of their slips
abbrev pub invariant-loop-whole : goal.invariant-loop-whole
invariant-loop-whole g l = record {
  running : g.T.Tx.is_stopped l.sender ≡ false;
  said : HasSaid l.channel l.fn.feac l.whole;
  same : g.T.Tx.meaning l.sender ≡ g.T.Tx.meaning l.fn.sender;
  room : l.frame.capacity ≡ l.fn.frame.capacity;
  lists : (g.P.Feed.inputs l.port).holds ≡ (g.P.Feed.inputs l.fn.port).holds;
  lines : (g.P.Drain.outputs l.port).holds ≡ (g.P.Drain.outputs l.fn.port).holds;
  upto : l.whole ≤ l.frames;
  ahead : IsUneventful (g.T.Tx.meaning l.fn.sender) (plan_in l.fn.clock g.G.SlipLog.takes) (l.whole * l.len) (l.whole * l.len + l.ahead.clear) (g.P.Feed.inputs l.port);
  waiting : IsUneventful (g.T.Tx.meaning l.fn.sender) (plan_in l.fn.clock g.G.SlipLog.takes) (l.whole * l.len) (l.whole * l.len + l.ahead.waiting * l.len) (only_waiting (g.P.Feed.inputs l.port) (g.P.Feed.waits l.port));
  enough : l.ahead.waiting * l.len ≤ l.ahead.clear;
  told : TellsAll g.G.SlipLog l.fn.log l.log (slips_over (g.T.Tx.meaning l.fn.sender) (plan_in l.fn.clock g.G.SlipLog.takes) 0 (l.whole * l.len));
  sends : Works {T = Unit {0}} g.P.Port.kept (port_faults g.P.Feed g.P.Drain) counted_at_send_stop
      (λ old new. Sending (g.T.Tx.meaning l.fn.sender) (says_of l.fn.feac) (g.T.Tx.stands_at l.sender (plan_in l.fn.clock g.G.SlipLog.takes)) (g.T.Tx.stands_for l.fn.sender) (g.T.Tx.stands_for l.sender) (plan_in l.fn.clock g.G.SlipLog.takes) (l.whole * l.len) (g.P.Feed.inputs old) (g.P.Feed.inputs new) (g.P.Drain.outputs old) (g.P.Drain.outputs new))
      (λ stop old new. SendStopsBy g.T.Tx g.P.Feed g.P.Drain l.fn.sender (plan_in l.fn.clock g.G.SlipLog.takes) l.fn.feac l.len l.fn.frames old new stop) l.fn.port l.port (Ok tt);
}

abbrev pub decreases-loop-whole : goal.decreases-loop-whole
decreases-loop-whole g l = l.frames - l.whole
