use Rattle.std.proofs.Common.{◌≡◌, ◌^◌, ◌<◌, ◌∷◌, [], suc, sym, subst, arith}
use Rattle.std.specs.Prelude.{IfOk, IfErr}
use Rattle.pdh_chain.specs.Calls.{IsPortFor, IsLeft}
use Rattle.pdh_chain.specs.Faults.{demux_reads, demux_writes}
use Rattle.pdh_smoothing.specs.Smoothing.{SmoothsBy, SmoothStopsBy}
use Rattle.pdh_smoothing.specs.Steps.{HasMarkLists}
use Rattle.pdh_smoothing.proofs.Working.{moved}
use Rattle.pdh_smoothing.proofs.receiving.smooth_with.Goals as goal

-- ---- what it calls

pub smooth_over-result-requires-clause-marks : goal.smooth_over-result-requires-clause-marks
smooth_over-result-requires-clause-marks g c = subst (HasMarkLists g.S.Shape.shape c.args.bits) (sym c.new-split.ensures.kept) c.in-Ok.ensures.marks

pub smooth_over-result-requires-clause-from : goal.smooth_over-result-requires-clause-from
smooth_over-result-requires-clause-from g c = omega (arith, c.new-split.ensures.from, g.met.S.Shape.tribs_is)

pub smooth_over-result-requires-clause-port : goal.smooth_over-result-requires-clause-port
smooth_over-result-requires-clause-port g c =
    subst (λ port. IsPortFor (g.P.Port.fresh port) (suc g.S.Shape.shape.tribs) (g.P.Drain.outputs port).holds (g.P.Feed.inputs port).holds) (sym c.new-split.ensures.port)
    (record {
      is_fresh = c.requires.port.is_fresh;
      has_leaves = λ k known. c.requires.port.has_leaves k (omega (arith, known));
      has_line = c.requires.port.has_line;
    })

-- ---- the line was taken, as far as it came

pub returns-in-Ok-clause-kept : goal.returns-in-Ok-clause-kept
returns-in-Ok-clause-kept g c = moved (λ old now. g.P.Port.kept old now) c.new-split.ensures.port c.into_port.ensures.port c.smooth_over-result.ensures.kept

pub returns-in-Ok-clause-reads : goal.returns-in-Ok-clause-reads
returns-in-Ok-clause-reads g c = moved (λ old now. g.P.Feed.feed_faults now ≡ demux_reads c.smooth_over-result.result (g.P.Feed.feed_faults old)) c.new-split.ensures.port c.into_port.ensures.port c.smooth_over-result.ensures.reads

pub returns-in-Ok-clause-writes : goal.returns-in-Ok-clause-writes
returns-in-Ok-clause-writes g c =
    let before : g.P.Drain.drain_faults c.new-split.result.port < 2 ^ 64 = subst (λ port. g.P.Drain.drain_faults port < 2 ^ 64) (sym c.new-split.ensures.port) c.new-split.ensures.counted in
    moved (λ old now. g.P.Drain.drain_faults now ≡ demux_writes c.smooth_over-result.result (g.P.Drain.drain_faults old)) c.new-split.ensures.port c.into_port.ensures.port
    (c.smooth_over-result.ensures.writes before c.into_port.ensures.counted)

pub returns-in-Ok-clause-left : goal.returns-in-Ok-clause-left
returns-in-Ok-clause-left g c = moved (λ old now. IsLeft (g.P.Port.fresh now) (g.P.Port.ready now) (g.P.Port.refused now) (g.P.Feed.unread now 0) c.smooth_over-result.result) c.new-split.ensures.port c.into_port.ensures.port c.smooth_over-result.ensures.left

pub returns-in-Ok-clause-ok : goal.returns-in-Ok-clause-ok
returns-in-Ok-clause-ok g c = moved (λ old now. IfOk c.smooth_over-result.result (SmoothsBy g.P.Feed g.P.Drain (g.S.Shape.shape ∷ []) c.args.bits old now)) c.new-split.ensures.port c.into_port.ensures.port c.smooth_over-result.ensures.ok

pub returns-in-Ok-clause-err : goal.returns-in-Ok-clause-err
returns-in-Ok-clause-err g c = moved (λ old now. IfErr c.smooth_over-result.result (SmoothStopsBy g.P.Feed g.P.Drain (g.S.Shape.shape ∷ []) c.args.bits old now)) c.new-split.ensures.port c.into_port.ensures.port c.smooth_over-result.ensures.err

-- ---- no memory

pub returns-in-Err-clause-kept : goal.returns-in-Err-clause-kept
returns-in-Err-clause-kept g c = g.met.P.Port.kept_same c.args.port

pub returns-in-Err-clause-left : goal.returns-in-Err-clause-left
returns-in-Err-clause-left g c = record { ready_is = c.requires.port.is_fresh; unread_is = λ h. cc }
