use Rattle.std.proofs.Common.{◌≡◌, ℕ, ◌∷◌, Ok, Err, map, sym, ap, ◌∙◌, inr, arith}
use Rattle.std.proofs.lemmas.Result.{err_from_is_err_and}
use Rattle.pdh_edge.specs.Ports.{Inputs, Outputs}
use Rattle.pdh_edge.proofs.Runs.{rose_of}
use Rattle.pdh_chain.specs.Faults.{reads_at_demux_stop, writes_at_demux_stop}
use Rattle.pdh_rx.specs.Node.{node_meaning}
use Rattle.pdh_rx.proofs.NodeSteps.{frames_exact}
use Rattle.pdh_chain.proofs.Demuxed.{leaf_held, demuxes, stops, left, nothing_received}
use Rattle.pdh_chain.proofs.receiving.demux_with.Goals as goal

pub returns-in_err-start-clause-err : goal.returns-in_err-start-clause-err
returns-in_err-start-clause-err g c =
    let p = err_from_is_err_and c.from_residual-in_err-start.result c.from_residual-in_err-start.ensures.1 in
    rw (p.1, p.2) (rose_of _ _ c.in_err-start.ensures.cause, nothing_received (g.S.Shape.shape ∷ g.C.ChainRx.shapes) _ c.args.bits _ _ _ _ c.in_err-start.ensures.inputs c.in_err-start.ensures.outputs (g.met.W.Watch.saw_nothing c.args.watch.now))

pub receive-requires-clause-port : goal.receive-requires-clause-port
receive-requires-clause-port g c =
    let shapes = g.S.Shape.shape ∷ g.C.ChainRx.shapes in
    let same = c.in_ok-node.ensures.meaning in
    record {
      lists = λ k is. ap (λ (o : Outputs). o.holds k) c.in_ok-start.ensures.outputs ∙ c.requires.port.has_leaves k (leaf_held shapes k (sym (ap (λ m. m.leaves k) same) ∙ is));
      line = ap (λ (i : Inputs). i.holds 0) c.in_ok-start.ensures.inputs ∙ c.requires.port.has_line;
    }

pub returns-in_err-receive-clause-err : goal.returns-in_err-receive-clause-err
returns-in_err-receive-clause-err g c =
    let p = err_from_is_err_and c.from_residual-in_err-receive.result c.from_residual-in_err-receive.ensures.1 in
    let s = g.S.Shape.shape in
    let shapes = s ∷ g.C.ChainRx.shapes in
    let same = c.in_ok-node.ensures.meaning in
    let since = g.met.P.Port.kept_counts c.args.port.now c.start.new.self c.start.ensures.kept in
    rw (p.1, p.2, sym c.in_ok-start.ensures.inputs, sym c.in_ok-start.ensures.outputs)
    (stops shapes _ (λ events. g.W.Watch.saw c.args.watch.now events c.receive.new.watch) c.args.bits _ _ _ _ _ _ _ _ _ _ c.in_err-receive.field-0.0 same (g.met.S.Shape.is_frame, g.met.S.Shape.has_tributaries, g.met.C.ChainRx.are_frames) since.0 since.1 c.in_err-receive.ensures.received.does)

pub returns-in_err-start-clause-left : goal.returns-in_err-start-clause-left
returns-in_err-start-clause-left g c =
    let p = err_from_is_err_and c.from_residual-in_err-start.result c.from_residual-in_err-start.ensures.1 in
    rw (p.1, p.2) (record { ready_is = inr c.in_err-start.ensures.err; unread_is = λ h. cc })

pub returns-in_err-start-clause-reads : goal.returns-in_err-start-clause-reads
returns-in_err-start-clause-reads g c =
    let p = err_from_is_err_and c.from_residual-in_err-start.result c.from_residual-in_err-start.ensures.1 in
    rw (p.1, p.2) c.start.ensures.reads

pub returns-in_err-start-clause-writes : goal.returns-in_err-start-clause-writes
returns-in_err-start-clause-writes g c =
    let p = err_from_is_err_and c.from_residual-in_err-start.result c.from_residual-in_err-start.ensures.1 in
    rw (p.1, p.2) c.in_err-start.ensures.cause

pub returns-in_err-receive-clause-reads : goal.returns-in_err-receive-clause-reads
returns-in_err-receive-clause-reads g c =
    let p = err_from_is_err_and c.from_residual-in_err-receive.result c.from_residual-in_err-receive.ensures.1 in
    rw (p.1, p.2) (ap (λ (k : ℕ × ℕ). k.0) c.in_err-receive.ensures.received.counts ∙ ap (reads_at_demux_stop c.in_err-receive.field-0.0) c.start.ensures.reads)

pub returns-in_err-receive-clause-writes : goal.returns-in_err-receive-clause-writes
returns-in_err-receive-clause-writes g c =
    let p = err_from_is_err_and c.from_residual-in_err-receive.result c.from_residual-in_err-receive.ensures.1 in
    rw (p.1, p.2) (ap (λ (k : ℕ × ℕ). k.1) c.in_err-receive.ensures.received.counts ∙ ap (writes_at_demux_stop c.in_err-receive.field-0.0) c.in_ok-start.ensures.cause)

pub returns-clause-kept : goal.returns-clause-kept
returns-clause-kept g c = g.met.P.Port.kept_join c.args.port.now c.start.new.self c.receive.new.port c.start.ensures.kept c.in_ok-receive.ensures.received.kept

ok_is_no_err : {T E A : Type 0} (x : T) (e : E) → Ok x ≡ Err e → A
ok_is_no_err x e same = absurd (cc)

pub returns-clause-left : goal.returns-clause-left
returns-clause-left g c = record {
  ready_is = g.met.P.Port.kept_ready c.start.new.self c.receive.new.port c.receive.ensures.received.kept c.in_ok-start.ensures.ok;
  unread_is = λ h. ok_is_no_err _ _ h;
}

pub returns-clause-ok : goal.returns-clause-ok
returns-clause-ok g c =
    let s = g.S.Shape.shape in
    let shapes = s ∷ g.C.ChainRx.shapes in
    let same = c.in_ok-node.ensures.meaning in
    rw (sym c.in_ok-start.ensures.inputs, sym c.in_ok-start.ensures.outputs)
    (demuxes shapes _ _ (λ events. g.W.Watch.saw c.args.watch.now events c.receive.new.watch) c.args.bits c.frames.result _ _ _ _ same (g.met.S.Shape.is_frame, g.met.S.Shape.has_tributaries, g.met.C.ChainRx.are_frames)
    (λ line count stood. c.frames.ensures line stood ∙ frames_exact s line g.met.S.Shape.is_frame (omega (arith, count, c.requires.few))) c.in_ok-receive.ensures.received.does)

pub returns-in_err-receive-clause-left : goal.returns-in_err-receive-clause-left
returns-in_err-receive-clause-left g c =
    let p = err_from_is_err_and c.from_residual-in_err-receive.result c.from_residual-in_err-receive.ensures.1 in
    let ready = g.met.P.Port.kept_ready c.start.new.self c.receive.new.port c.receive.ensures.received.kept c.in_ok-start.ensures.ok in
    let meaning = node_meaning g.S.Shape.shape c.in_ok-node.node.path (map g.C.Rx.meaning c.in_ok-node.node.children) in
    rw (p.1, p.2)
    (record {
      ready_is = left meaning (λ events. g.W.Watch.saw c.args.watch.now events c.receive.new.watch) c.args.bits (g.P.Feed.inputs c.start.new.self) (g.P.Feed.inputs c.receive.new.port) (g.P.Drain.outputs c.start.new.self) (g.P.Drain.outputs c.receive.new.port) (g.P.Feed.feed_faults c.start.new.self)
          (g.P.Feed.feed_faults c.receive.new.port) (g.P.Drain.drain_faults c.start.new.self) (g.P.Drain.drain_faults c.receive.new.port) _ _ _ c.in_err-receive.field-0.0 c.in_err-receive.ensures.received.does ready;
      unread_is = λ h. c.in_err-receive.ensures.unread (cc);
    })
