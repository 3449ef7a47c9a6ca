use Rattle.std.proofs.Common.{◌≡◌, ◌^◌, ◌<◌, inl, ℕ, List, ap, sym, subst, ◌∙◌, arith}
use Rattle.std.proofs.lemmas.Result.{err_from_is_err_and}
use Rattle.pdh_bits.specs.Bits.{bits_of}
use Rattle.pdh_edge.specs.Counts.{one_more}
use Rattle.pdh_edge.specs.Ports.{Takes, Puts, PutsPart, for_leaf}
use Rattle.pdh_edge.proofs.Runs.{rose_of}
use Rattle.pdh_chain.specs.Muxing.{as_line}
use Rattle.pdh_rx.proofs.NodeSteps.{frames_exact}
use Rattle.pdh_smoothing.specs.Again.{lists_in, schedule_again}
use Rattle.pdh_smoothing.proofs.Marked.{again_is, are_marks}
use Rattle.pdh_smoothing.proofs.Received.{all_put, part_put}
use Rattle.pdh_smoothing.proofs.receiving.smooth_over.Goals as goal

-- ---- the line wasn't taken to its end

pub returns-in_err-take_line-clause-reads : goal.returns-in_err-take_line-clause-reads
returns-in_err-take_line-clause-reads g c =
    let p = err_from_is_err_and c.from_residual.result c.from_residual.ensures.1 in
    rw (p.1, p.2) c.in_err-take_line.ensures.reads

pub returns-in_err-take_line-clause-writes : goal.returns-in_err-take_line-clause-writes
returns-in_err-take_line-clause-writes g c few few' =
    let p = err_from_is_err_and c.from_residual.result c.from_residual.ensures.1 in
    rw (p.1, p.2) (c.in_err-take_line.ensures.writes few few')

pub returns-in_err-take_line-clause-left : goal.returns-in_err-take_line-clause-left
returns-in_err-take_line-clause-left g c =
    let p = err_from_is_err_and c.from_residual.result c.from_residual.ensures.1 in
    rw (p.1, p.2) c.in_err-take_line.ensures.left

pub returns-in_err-take_line-clause-err : goal.returns-in_err-take_line-clause-err
returns-in_err-take_line-clause-err g c =
    let p = err_from_is_err_and c.from_residual.result c.from_residual.ensures.1 in
    rw (p.1, p.2) c.in_err-take_line.ensures.err

-- ---- the schedule

pub put_rows-requires-clause-marks : goal.put_rows-requires-clause-marks
put_rows-requires-clause-marks g c =
    let s = g.S.Shape.shape in
    let line = c.in_ok-take_line.ensures.ok in
    are_marks s line.given (lists_in c.take_line.new.split.kept) line.marked (omega (arith, c.requires.some, g.met.S.Shape.tribs_is)) line.held

pub put_rows-requires-clause-list : goal.put_rows-requires-clause-list
put_rows-requires-clause-list g c =
    ap (λ h. h c.from.result) (g.met.P.Port.kept_holds c.args.split.now.port c.take_line.new.split.port c.take_line.ensures.kept).1 ∙ c.requires.port.has_leaves c.from.result (omega (arith, c.from.ensures, g.met.S.Shape.tribs_is))

pub returns-in_err-put_rows-clause-kept : goal.returns-in_err-put_rows-clause-kept
returns-in_err-put_rows-clause-kept g c = g.met.P.Port.kept_join _ _ _ c.take_line.ensures.kept (g.met.P.Port.drained_is_kept _ _ c.put_rows.ensures.drained)

pub returns-in_err-put_rows-clause-reads : goal.returns-in_err-put_rows-clause-reads
returns-in_err-put_rows-clause-reads g c =
    let p = err_from_is_err_and c.from_residual-in_err-put_rows.result c.from_residual-in_err-put_rows.ensures.1 in
    rw (p.1, p.2) ((g.met.P.Port.drained_keeps_inputs _ _ c.put_rows.ensures.drained).1 ∙ c.in_ok-take_line.ensures.reads)

pub returns-in_err-put_rows-clause-writes : goal.returns-in_err-put_rows-clause-writes
returns-in_err-put_rows-clause-writes g c few few' =
    let p = err_from_is_err_and c.from_residual-in_err-put_rows.result c.from_residual-in_err-put_rows.ensures.1 in
    let before : g.P.Drain.drain_faults c.take_line.new.split.port < 2 ^ 64 = omega (arith, few', g.met.P.Drain.drained_counts _ _ c.put_rows.ensures.drained) in
    rw (p.1, p.2) (c.in_err-put_rows.ensures.cause ∙ ap one_more (c.in_ok-take_line.ensures.writes few before))

pub returns-in_err-put_rows-clause-left : goal.returns-in_err-put_rows-clause-left
returns-in_err-put_rows-clause-left g c =
    let p = err_from_is_err_and c.from_residual-in_err-put_rows.result c.from_residual-in_err-put_rows.ensures.1 in
    let ready = g.met.P.Port.kept_ready c.take_line.new.split.port c.put_rows.new.port (g.met.P.Port.drained_is_kept _ _ c.put_rows.ensures.drained) c.in_ok-take_line.ensures.ready in
    rw (p.1, p.2) (record { ready_is = inl ready; unread_is = λ h. absurd (cc) })

pub returns-in_err-put_rows-clause-err : goal.returns-in_err-put_rows-clause-err
returns-in_err-put_rows-clause-err g c =
    let p = err_from_is_err_and c.from_residual-in_err-put_rows.result c.from_residual-in_err-put_rows.ensures.1 in
    let s = g.S.Shape.shape in
    let bits = c.args.bits in
    let line = c.in_ok-take_line.ensures.ok in
    let mid = c.take_line.new.split in
    let o = g.P.Drain.outputs c.args.split.now.port in
    let now = g.P.Drain.outputs c.put_rows.new.port in
    let some : 0 < s.tribs = omega (arith, c.requires.some, g.met.S.Shape.tribs_is) in
    let at : c.from.result ≡ s.tribs = omega (arith, c.from.ensures, g.met.S.Shape.tribs_is) in
    let text = again_is s line.given (lists_in mid.kept) line.marked some in
    let put = subst (λ t. PutsPart (for_leaf t (bits_of (schedule_again s line.given))) (g.P.Drain.outputs mid.port) now) at
    (subst (λ (text : List ℕ). PutsPart (for_leaf c.from.result (bits_of text)) (g.P.Drain.outputs mid.port) now) text c.in_err-put_rows.ensures.err) in
    let inputs = (g.met.P.Port.drained_keeps_inputs _ _ c.put_rows.ensures.drained).0 in
    let since = (g.met.P.Port.kept_counts c.args.split.now.port mid.port c.take_line.ensures.kept).1 in
    rw (p.1, p.2) (
      omega (arith, since, rose_of _ _ c.in_err-put_rows.ensures.cause),
      record {
        given = line.given;
        upto = omega (arith, line.count);
        takes = subst (Takes (as_line line.given) (g.P.Feed.inputs c.args.split.now.port)) (sym inputs) line.takes;
        puts = λ k known. part_put s bits line.given k (o.told k) ((g.P.Drain.outputs mid.port).told k) (now.told k) line.count (omega (arith, known)) (line.puts k (omega (arith, known))) (put k);
      },
    )

-- ---- all of it

pub returns-clause-kept : goal.returns-clause-kept
returns-clause-kept g c = g.met.P.Port.kept_join _ _ _ c.take_line.ensures.kept (g.met.P.Port.drained_is_kept _ _ c.put_rows.ensures.drained)

pub returns-clause-reads : goal.returns-clause-reads
returns-clause-reads g c = (g.met.P.Port.drained_keeps_inputs _ _ c.put_rows.ensures.drained).1 ∙ c.in_ok-take_line.ensures.reads

pub returns-clause-writes : goal.returns-clause-writes
returns-clause-writes g c few few' =
    let before : g.P.Drain.drain_faults c.take_line.new.split.port < 2 ^ 64 = omega (arith, few', c.in_ok-put_rows.ensures.cause) in
    c.in_ok-put_rows.ensures.cause ∙ c.in_ok-take_line.ensures.writes few before

pub returns-clause-left : goal.returns-clause-left
returns-clause-left g c = record {
  ready_is = g.met.P.Port.kept_ready c.take_line.new.split.port c.put_rows.new.port (g.met.P.Port.drained_is_kept _ _ c.put_rows.ensures.drained) c.in_ok-take_line.ensures.ready;
  unread_is = λ h. absurd (cc);
}

pub returns-clause-ok : goal.returns-clause-ok
returns-clause-ok g c =
    let s = g.S.Shape.shape in
    let bits = c.args.bits in
    let line = c.in_ok-take_line.ensures.ok in
    let mid = c.take_line.new.split in
    let o = g.P.Drain.outputs c.args.split.now.port in
    let now = g.P.Drain.outputs c.put_rows.new.port in
    let some : 0 < s.tribs = omega (arith, c.requires.some, g.met.S.Shape.tribs_is) in
    let at : c.from.result ≡ s.tribs = omega (arith, c.from.ensures, g.met.S.Shape.tribs_is) in
    let text = again_is s line.given (lists_in mid.kept) line.marked some in
    let put = subst (λ t. Puts (for_leaf t (bits_of (schedule_again s line.given))) (g.P.Drain.outputs mid.port) now) at
    (subst (λ (text : List ℕ). Puts (for_leaf c.from.result (bits_of text)) (g.P.Drain.outputs mid.port) now) text c.in_ok-put_rows.ensures.ok) in
    let inputs = (g.met.P.Port.drained_keeps_inputs _ _ c.put_rows.ensures.drained).0 in
    record {
      given = line.given;
      count = line.count;
      line = record {
        takes = subst (Takes (as_line line.given) (g.P.Feed.inputs c.args.split.now.port)) (sym inputs) line.takes;
        puts = λ k known. all_put s bits line.given k (o.told k) ((g.P.Drain.outputs mid.port).told k) (now.told k) line.count (omega (arith, known)) (line.puts k (omega (arith, known))) (put k);
      };
      frames_are = c.frames.ensures line.given line.stood ∙ frames_exact s line.given g.met.S.Shape.is_frame (omega (arith, line.count, c.requires.few));
    }
