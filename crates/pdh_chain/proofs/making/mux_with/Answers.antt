use Rattle.std.proofs.Common.{arith, ◌≡◌, ℕ, sym, ◌∙◌, ap, subst, inl, inr}
use Rattle.std.specs.Prelude.{IsTrue}
use Rattle.std.proofs.lemmas.Result.{err_from_is_err_and}
use Rattle.pdh_edge.specs.Ports.{Inputs, Outputs}
use Rattle.pdh_edge.specs.Counts.{one_more}
use Rattle.pdh_edge.proofs.Runs.{rose_of}
use Rattle.pdh_nesting.specs.Chains.{top_len}
use Rattle.pdh_clock.specs.Contents.{frame_count, counts}
use Rattle.pdh_tx.specs.Meaning.{plan_in, mode_of}
use Rattle.pdh_chain.specs.Saying.{says_of}
use Rattle.pdh_chain.proofs.Tolerated.{at_top}
use Rattle.pdh_chain.proofs.Muxed.{leaves_held, nodes_held, frames_held, sent, stopped, failed, take_failed, nothing_put, stop_since}
use Rattle.pdh_tx.specs.declared.tx.TxStop.TheVariants.{Failed}
use Rattle.pdh_tx.proofs.Telling.{tells_same, front_first}
use Rattle.pdh_chain.proofs.Telling.{retold}
use Rattle.pdh_chain.proofs.SlipsTold.{frames_slips}
use Rattle.pdh_chain.proofs.MuxLeft.{never_memory, same_err, left_by_sender, reads_by_sender, writes_by_sender}
use Rattle.pdh_chain.proofs.making.mux_with.Goals as goal

-- ---- the port's start failed

pub returns-in-Err-clause-ready : goal.returns-in-Err-clause-ready
returns-in-Err-clause-ready g c = inr c.in-Err.ensures.err

pub returns-in-Err-clause-reads : goal.returns-in-Err-clause-reads
returns-in-Err-clause-reads g c = c.start.ensures.reads

pub returns-in-Err-clause-writes : goal.returns-in-Err-clause-writes
returns-in-Err-clause-writes g c = c.in-Err.ensures.cause

pub returns-in-Err-clause-err : goal.returns-in-Err-clause-err
returns-in-Err-clause-err g c = (rose_of _ _ c.in-Err.ensures.cause, nothing_put (mode_of g.G.SlipLog.takes) g.T.ChainTx.shapes _ (says_of c.args.feac) _ _ _ _ _ _ g.met.T.ChainTx.are_frames c.start.ensures.inputs c.start.ensures.outputs)

-- ---- the frames were sent, or not

pub send_frames-requires-clause-port : goal.send_frames-requires-clause-port
send_frames-requires-clause-port g c = record {
  fed = record {
    lists = leaves_held g.T.ChainTx.shapes _ (g.P.Feed.inputs c.start.new.self) c.in_ok-top.ensures.meaning
        (λ k known. subst (λ (i : Inputs). IsTrue (i.holds k)) (sym c.in_default.ensures.inputs) (c.requires.port.has_leaves k known));
    nodes = nodes_held g.T.ChainTx.shapes c.args.clock.now.levels _ c.in_ok-top.ensures.meaning (at_top g.T.ChainTx.shapes c.requires.chain.few.depth) c.requires.chain.levels_are;
  };
  line = subst (λ (o : Outputs). IsTrue (o.holds 0)) (sym c.in_default.ensures.outputs) c.requires.port.has_line;
}

pub send_frames-requires-clause-sender : goal.send_frames-requires-clause-sender
send_frames-requires-clause-sender g c =
    let long : top_len g.T.ChainTx.shapes ≡ c.LEN-len.result = g.met.T.ChainTop.len_is ∙ sym c.LEN-len.ensures in
    record {
      running = c.in_ok-top.ensures.fresh.runs;
      stands = c.in_ok-top.ensures.fresh.placed (plan_in c.args.clock.now g.G.SlipLog.takes);
      frames = frames_held g.T.ChainTx.shapes _ _ g.met.T.ChainTx.are_frames c.in_ok-top.ensures.meaning long;
    }

pub returns-in-Ok-clause-reads : goal.returns-in-Ok-clause-reads
returns-in-Ok-clause-reads g c = ap (λ (k : ℕ × ℕ). k.0) c.in-Ok.ensures.sent.counts ∙ c.start.ensures.reads

pub returns-in-Ok-clause-writes : goal.returns-in-Ok-clause-writes
returns-in-Ok-clause-writes g c = ap (λ (k : ℕ × ℕ). k.1) c.in-Ok.ensures.sent.counts ∙ c.in_default.ensures.cause

pub returns-in-Ok-clause-ok : goal.returns-in-Ok-clause-ok
returns-in-Ok-clause-ok g c =
    let shapes = g.T.ChainTx.shapes in
    let whole = g.met.T.ChainTop.len_is ∙ sym c.LEN-len.ensures in
    rw (sym c.in_default.ensures.inputs, sym c.in_default.ensures.outputs)
    (sent (mode_of g.G.SlipLog.takes) shapes (counts c.args.clock.now.rows) (says_of c.args.feac) (frame_count c.args.clock.now.rows) g.met.T.ChainTx.are_frames (at_top shapes c.requires.chain.few.depth) _ c.LEN-len.result c.in_ok-top.ensures.meaning whole _ _ _ c.args.frames _ _ _ _ c.in_ok-top.ensures.fresh.held c.in-Ok.ensures.sent.does)

pub returns-in-Err-Sender-clause-ready : goal.returns-in-Err-Sender-clause-ready
returns-in-Err-Sender-clause-ready g c =
    rw c.stop_of.ensures
    (left_by_sender _ _ _ c.in-Err-Sender.stop (g.met.P.Port.kept_ready c.start.new.self c.send_frames.new.port c.send_frames.ensures.sent.kept c.in_default.ensures.ok))

pub returns-in-Err-Sender-clause-reads : goal.returns-in-Err-Sender-clause-reads
returns-in-Err-Sender-clause-reads g c =
    let sent = rw c.in-Err-Sender.field-0-is at c.in-Err-Sender.ensures.sent in
    rw c.stop_of.ensures (reads_by_sender c.in-Err-Sender.stop _ _ _ (ap (λ (k : ℕ × ℕ). k.0) sent.counts) c.start.ensures.reads)

pub returns-in-Err-Sender-clause-writes : goal.returns-in-Err-Sender-clause-writes
returns-in-Err-Sender-clause-writes g c =
    let sent = rw c.in-Err-Sender.field-0-is at c.in-Err-Sender.ensures.sent in
    rw c.stop_of.ensures (writes_by_sender c.in-Err-Sender.stop _ _ (ap (λ (k : ℕ × ℕ). k.1) sent.counts ∙ c.in_default.ensures.cause))

pub returns-in-Err-Sender-clause-err : goal.returns-in-Err-Sender-clause-err
returns-in-Err-Sender-clause-err g c =
    let shapes = g.T.ChainTx.shapes in
    let whole = g.met.T.ChainTop.len_is ∙ sym c.LEN-len.ensures in
    let since = g.met.P.Port.kept_counts c.args.port.now c.start.new.self c.start.ensures.kept in
    let sent = rw c.in-Err-Sender.field-0-is at c.in-Err-Sender.ensures.sent in
    rw (c.stop_of.ensures, sym c.in_default.ensures.inputs, sym c.in_default.ensures.outputs)
    (stop_since (mode_of g.G.SlipLog.takes) shapes (counts c.args.clock.now.rows) (says_of c.args.feac) (frame_count c.args.clock.now.rows) c.args.frames _ _ _ _ _ _ _ _ _ _ _ since.0 since.1
    (stopped (mode_of g.G.SlipLog.takes) shapes (counts c.args.clock.now.rows) (says_of c.args.feac) (frame_count c.args.clock.now.rows) g.met.T.ChainTx.are_frames (at_top shapes c.requires.chain.few.depth) _ c.LEN-len.result c.in_ok-top.ensures.meaning whole _ c.args.frames c.in-Err-Sender.stop _ _ _ _ _ _ _ _ c.requires.scheduled
    c.in_ok-top.ensures.fresh.held sent.does))

-- ---- a call for bits failed

pub returns-in-Err-TakeFailed-clause-ready : goal.returns-in-Err-TakeFailed-clause-ready
returns-in-Err-TakeFailed-clause-ready g c = g.met.P.Port.kept_ready c.start.new.self c.send_frames.new.port c.send_frames.ensures.sent.kept c.in_default.ensures.ok

pub returns-in-Err-TakeFailed-clause-reads : goal.returns-in-Err-TakeFailed-clause-reads
returns-in-Err-TakeFailed-clause-reads g c =
    let sent = rw c.in-Err-TakeFailed.field-0-is at c.in-Err-TakeFailed.ensures.sent in
    ap (λ (k : ℕ × ℕ). k.0) sent.counts ∙ ap one_more c.start.ensures.reads

pub returns-in-Err-TakeFailed-clause-writes : goal.returns-in-Err-TakeFailed-clause-writes
returns-in-Err-TakeFailed-clause-writes g c =
    let sent = rw c.in-Err-TakeFailed.field-0-is at c.in-Err-TakeFailed.ensures.sent in
    ap (λ (k : ℕ × ℕ). k.1) sent.counts ∙ c.in_default.ensures.cause

pub returns-in-Err-TakeFailed-clause-err : goal.returns-in-Err-TakeFailed-clause-err
returns-in-Err-TakeFailed-clause-err g c =
    let shapes = g.T.ChainTx.shapes in
    let whole = g.met.T.ChainTop.len_is ∙ sym c.LEN-len.ensures in
    let since = g.met.P.Port.kept_counts c.args.port.now c.start.new.self c.start.ensures.kept in
    let sent = rw c.in-Err-TakeFailed.field-0-is at c.in-Err-TakeFailed.ensures.sent in
    let stop = take_failed (mode_of g.G.SlipLog.takes) shapes (counts c.args.clock.now.rows) (says_of c.args.feac) (frame_count c.args.clock.now.rows) g.met.T.ChainTx.are_frames (at_top shapes c.requires.chain.few.depth) _ c.LEN-len.result c.in_ok-top.ensures.meaning whole _ c.args.frames _ _ _ _ _ _ c.in_ok-top.ensures.fresh.held sent.does in
    rw (sym c.in_default.ensures.inputs, sym c.in_default.ensures.outputs) (omega (arith, stop.0, since.0), stop.1)

-- ---- a bit couldn't be put

pub returns-clause-ready : goal.returns-clause-ready
returns-clause-ready g c = inl (g.met.P.Port.kept_ready c.start.new.self c.send_frames.new.port c.send_frames.ensures.sent.kept c.in_default.ensures.ok)

pub returns-clause-reads : goal.returns-clause-reads
returns-clause-reads g c =
    let sent = rw c.in-Err-WriteFailed.field-0-is at c.in-Err-WriteFailed.ensures.sent in
    ap (λ (k : ℕ × ℕ). k.0) sent.counts ∙ c.start.ensures.reads

pub returns-clause-writes : goal.returns-clause-writes
returns-clause-writes g c =
    let sent = rw c.in-Err-WriteFailed.field-0-is at c.in-Err-WriteFailed.ensures.sent in
    ap (λ (k : ℕ × ℕ). k.1) sent.counts ∙ ap one_more c.in_default.ensures.cause

pub returns-clause-err : goal.returns-clause-err
returns-clause-err g c =
    let shapes = g.T.ChainTx.shapes in
    let whole = g.met.T.ChainTop.len_is ∙ sym c.LEN-len.ensures in
    let since = g.met.P.Port.kept_counts c.args.port.now c.start.new.self c.start.ensures.kept in
    let sent = rw c.in-Err-WriteFailed.field-0-is at c.in-Err-WriteFailed.ensures.sent in
    let stop = failed (mode_of g.G.SlipLog.takes) shapes (counts c.args.clock.now.rows) (says_of c.args.feac) (frame_count c.args.clock.now.rows) g.met.T.ChainTx.are_frames (at_top shapes c.requires.chain.few.depth) _ c.LEN-len.result c.in_ok-top.ensures.meaning whole _ c.args.frames _ _ _ _ _ _ c.in_ok-top.ensures.fresh.held sent.does in
    rw (sym c.in_default.ensures.inputs, sym c.in_default.ensures.outputs) (omega (arith, stop.0, since.1), stop.1)

-- ---- what the log was told

pub returns-in-Err-clause-told : goal.returns-in-Err-clause-told
returns-in-Err-clause-told g c takes = record { all = tt; front = front_first g.G.SlipLog (record { nothing = g.met.G.SlipLog.logged_nothing; joins = g.met.G.SlipLog.logged_join; breaks = g.met.G.SlipLog.broken_join }) c.args.log.now _ Failed (λ is. cc) }

pub returns-in-Ok-clause-told : goal.returns-in-Ok-clause-told
returns-in-Ok-clause-told g c takes =
    let shapes = g.T.ChainTx.shapes in
    let whole = g.met.T.ChainTop.len_is ∙ sym c.LEN-len.ensures in
    let same = frames_slips shapes c.args.clock.now g.G.SlipLog.takes _ c.args.frames c.LEN-len.result g.met.T.ChainTx.are_frames (at_top shapes c.requires.chain.few.depth) c.in_ok-top.ensures.meaning takes whole in
    tells_same _ _ same c.in-Ok.ensures.told

pub returns-in-Err-Sender-clause-told : goal.returns-in-Err-Sender-clause-told
returns-in-Err-Sender-clause-told g c takes =
    let shapes = g.T.ChainTx.shapes in
    let whole = g.met.T.ChainTop.len_is ∙ sym c.LEN-len.ensures in
    let same = frames_slips shapes c.args.clock.now g.G.SlipLog.takes _ c.args.frames c.LEN-len.result g.met.T.ChainTx.are_frames (at_top shapes c.requires.chain.few.depth) c.in_ok-top.ensures.meaning takes whole in
    let told = rw c.in-Err-Sender.field-0-is at c.in-Err-Sender.ensures.told in
    let front = tells_same _ _ same told in
    rw c.stop_of.ensures (record { all = tt; front = retold g.G.SlipLog _ _ _ c.in-Err-Sender.stop front.front })

pub returns-in-Err-TakeFailed-clause-told : goal.returns-in-Err-TakeFailed-clause-told
returns-in-Err-TakeFailed-clause-told g c takes =
    let shapes = g.T.ChainTx.shapes in
    let whole = g.met.T.ChainTop.len_is ∙ sym c.LEN-len.ensures in
    let same = frames_slips shapes c.args.clock.now g.G.SlipLog.takes _ c.args.frames c.LEN-len.result g.met.T.ChainTx.are_frames (at_top shapes c.requires.chain.few.depth) c.in_ok-top.ensures.meaning takes whole in
    let told = rw c.in-Err-TakeFailed.field-0-is at c.in-Err-TakeFailed.ensures.told in
    tells_same _ _ same told

pub returns-clause-told : goal.returns-clause-told
returns-clause-told g c takes =
    let shapes = g.T.ChainTx.shapes in
    let whole = g.met.T.ChainTop.len_is ∙ sym c.LEN-len.ensures in
    let same = frames_slips shapes c.args.clock.now g.G.SlipLog.takes _ c.args.frames c.LEN-len.result g.met.T.ChainTx.are_frames (at_top shapes c.requires.chain.few.depth) c.in_ok-top.ensures.meaning takes whole in
    let told = rw c.in-Err-WriteFailed.field-0-is at c.in-Err-WriteFailed.ensures.told in
    tells_same _ _ same told

pub returns-in_err-top-clause-told : goal.returns-in_err-top-clause-told
returns-in_err-top-clause-told g c takes =
    let p = err_from_is_err_and c.from_residual.result c.from_residual.ensures.1 in
    rw (p.1, p.2) (record { all = tt; front = front_first g.G.SlipLog (record { nothing = g.met.G.SlipLog.logged_nothing; joins = g.met.G.SlipLog.logged_join; breaks = g.met.G.SlipLog.broken_join }) c.args.log.now _ Failed (λ is. cc) })

pub returns-in_err-frame-clause-told : goal.returns-in_err-frame-clause-told
returns-in_err-frame-clause-told g c takes =
    let p = err_from_is_err_and c.from_residual-in_err-frame.result c.from_residual-in_err-frame.ensures.1 in
    rw (p.1, p.2) (record { all = tt; front = front_first g.G.SlipLog (record { nothing = g.met.G.SlipLog.logged_nothing; joins = g.met.G.SlipLog.logged_join; breaks = g.met.G.SlipLog.broken_join }) c.args.log.now _ Failed (λ is. cc) })

-- no stop of a sender is want of memory
pub returns-in-Err-Sender-clause-untold : goal.returns-in-Err-Sender-clause-untold
returns-in-Err-Sender-clause-untold g c is = absurd (never_memory c.in-Err-Sender.stop (sym c.stop_of.ensures ∙ same_err is))
