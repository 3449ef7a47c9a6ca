use Rattle.std.proofs.Common.{◌≡◌, ◌+◌, inl, inr, ℕ, ap, sym, ◌∙◌, arith}
use Rattle.std.proofs.lemmas.Result.{err_from_is_err_and}
use Rattle.pdh_edge.specs.Ports.{Inputs, Outputs}
use Rattle.pdh_edge.proofs.Runs.{rose_of}
use Rattle.pdh_rx.specs.Meaning.{Meaning}
use Rattle.pdh_rx.proofs.Gains.{on_ok_from}
use Rattle.pdh_chain.specs.Faults.{demux_reads, demux_writes}
use Rattle.pdh_smoothing.specs.Again.{lists_in}
use Rattle.pdh_smoothing.specs.Split.{first_then}
use Rattle.pdh_smoothing.proofs.Received.{leaf_is, marks_held, nothing_taken}
use Rattle.pdh_smoothing.proofs.Told.{first_is, second_is}
use Rattle.pdh_smoothing.proofs.Working.{reads_counted, writes_counted, taken_ok, taken_err, taken_writes, left_taken}
use Rattle.pdh_smoothing.proofs.receiving.take_line.Goals as goal

-- ---- a start that failed

pub returns-in_err-start-clause-err : goal.returns-in_err-start-clause-err
returns-in_err-start-clause-err g c =
    let p = err_from_is_err_and c.from_residual.result c.from_residual.ensures.1 in
    rw (p.1, p.2) (rose_of _ _ c.in_err-start.ensures.cause, nothing_taken g.S.Shape.shape c.args.bits _ _ _ _ c.start.ensures.inputs (λ k known. ap (λ (o : Outputs). o.told k) c.start.ensures.outputs))

pub returns-in_err-start-clause-left : goal.returns-in_err-start-clause-left
returns-in_err-start-clause-left g c =
    let p = err_from_is_err_and c.from_residual.result c.from_residual.ensures.1 in
    rw (p.1, p.2) (record { ready_is = inr c.in_err-start.ensures.err; unread_is = λ h. absurd (cc) })

pub returns-in_err-start-clause-reads : goal.returns-in_err-start-clause-reads
returns-in_err-start-clause-reads g c =
    let p = err_from_is_err_and c.from_residual.result c.from_residual.ensures.1 in
    rw (p.1, p.2) c.start.ensures.reads

pub returns-in_err-start-clause-writes : goal.returns-in_err-start-clause-writes
returns-in_err-start-clause-writes g c few few' =
    let p = err_from_is_err_and c.from_residual.result c.from_residual.ensures.1 in
    rw (p.1, p.2) c.in_err-start.ensures.cause

-- ---- the receiving

pub receive-requires-clause-port : goal.receive-requires-clause-port
receive-requires-clause-port g c =
    let s = g.S.Shape.shape in
    let from = c.args.split.now.from in
    let first = (g.P.Drain.outputs c.start.new.self).holds in
    let kept = (lists_in c.args.split.now.kept).holds in
    record {
      lists = λ k is. elim (leaf_is s k (ap (λ (m : Meaning). m.leaves k) (sym c.requires.node.means) ∙ is)) [
        | inl known ↦ first_is from first kept k (omega (arith, known, c.requires.from)) ∙ ap (λ (o : Outputs). o.holds k) c.start.ensures.outputs ∙ c.requires.port.has_leaves k (omega (arith, known))
        | inr mark ↦
            let at : k ≡ mark.0 + from = omega (arith, mark.2, c.requires.from) in
            ap (first_then from first kept) at ∙ second_is from first kept mark.0 ∙ marks_held s c.args.bits c.args.split.now.kept c.requires.marks mark.0 mark.1
      ];
      line = ap (λ (i : Inputs). i.holds 0) c.start.ensures.inputs ∙ c.requires.port.has_line;
    }

pub returns-clause-kept : goal.returns-clause-kept
returns-clause-kept g c = g.met.P.Port.kept_join c.args.split.now.port c.start.new.self c.receive.new.port.port c.start.ensures.kept c.receive.ensures.received.kept.0

pub returns-clause-ready : goal.returns-clause-ready
returns-clause-ready g c =
    on_ok_from _ c.receive.result (g.met.P.Port.kept_ready c.start.new.self c.receive.new.port.port c.receive.ensures.received.kept.0 c.in_ok-start.ensures.ok)

pub returns-clause-reads : goal.returns-clause-reads
returns-clause-reads g c =
    ap (λ (k : ℕ × ℕ). k.0) c.receive.ensures.received.counts ∙ reads_counted c.receive.result _ ∙ ap (demux_reads c.receive.result) c.start.ensures.reads

pub returns-clause-writes : goal.returns-clause-writes
returns-clause-writes g c few few' =
    let s = g.S.Shape.shape in
    let split = c.args.split.now in
    let begun = c.start.new.self in
    let now = c.receive.new.port in
    let work = c.receive.ensures.received in
    let since : g.P.Drain.drain_faults begun ≡ g.P.Drain.drain_faults split.port = c.in_ok-start.ensures.cause in
    taken_writes s g.met.S.Shape.is_frame c.args.bits _ c.requires.node.means _ _ (g.P.Feed.inputs begun) (g.P.Feed.inputs now.port) (g.P.Drain.outputs begun) (g.P.Drain.outputs now.port) split.kept now.kept split.from now.from c.requires.from work.kept.2
    (g.P.Feed.feed_faults begun) (g.P.Feed.feed_faults now.port) (g.P.Drain.drain_faults begun) (g.P.Drain.drain_faults now.port) c.requires.marks work.kept.1.2 work.kept.1.3 c.receive.result work (λ w. w) (λ stop w. w)
    (ap (λ (k : ℕ × ℕ). k.1) work.counts ∙ writes_counted c.receive.result _) (omega (arith, since, few)) few'
    ∙ ap (demux_writes c.receive.result) since

pub returns-clause-ok : goal.returns-clause-ok
returns-clause-ok g c =
    let s = g.S.Shape.shape in
    let split = c.args.split.now in
    let begun = c.start.new.self in
    let now = c.receive.new.port in
    let work = c.receive.ensures.received in
    rw (← c.start.ensures.inputs, ← c.start.ensures.outputs)
    (taken_ok s g.met.S.Shape.is_frame c.args.bits _ c.requires.node.means _ _ (g.P.Feed.inputs begun) (g.P.Feed.inputs now.port) (g.P.Drain.outputs begun) (g.P.Drain.outputs now.port) split.kept now.kept split.from now.from c.requires.from work.kept.2
    (g.P.Feed.feed_faults begun) (g.P.Feed.feed_faults now.port) (g.P.Drain.drain_faults begun) (g.P.Drain.drain_faults now.port) c.requires.marks work.kept.1.2 work.kept.1.3 c.receive.result work (λ w. w) (λ stop w. w))

pub returns-clause-err : goal.returns-clause-err
returns-clause-err g c =
    let s = g.S.Shape.shape in
    let split = c.args.split.now in
    let begun = c.start.new.self in
    let now = c.receive.new.port in
    let work = c.receive.ensures.received in
    rw (← c.start.ensures.inputs, ← c.start.ensures.outputs, ← c.start.ensures.reads, ← c.in_ok-start.ensures.cause)
    (taken_err s g.met.S.Shape.is_frame c.args.bits _ c.requires.node.means _ _ (g.P.Feed.inputs begun) (g.P.Feed.inputs now.port) (g.P.Drain.outputs begun) (g.P.Drain.outputs now.port) split.kept now.kept split.from now.from c.requires.from work.kept.2
    (g.P.Feed.feed_faults begun) (g.P.Feed.feed_faults now.port) (g.P.Drain.drain_faults begun) (g.P.Drain.drain_faults now.port) c.requires.marks work.kept.1.2 work.kept.1.3 c.receive.result work (λ w. w) (λ stop w. w))

pub returns-clause-left : goal.returns-clause-left
returns-clause-left g c =
    left_taken c.receive.result _ _ _ _ c.receive.ensures.received (g.met.P.Port.kept_ready c.start.new.self c.receive.new.port.port c.receive.ensures.received.kept.0 c.in_ok-start.ensures.ok) (λ none. none) c.receive.ensures.unread
