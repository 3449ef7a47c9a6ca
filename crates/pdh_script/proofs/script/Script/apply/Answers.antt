use Rattle.std.proofs.Common.{◌≡◌, List, sym, ap, ◌∙◌}
use Rattle.std.proofs.lemmas.Result.{err_from_is_err_and}
use Rattle.pdh_edge.proofs.Runs.{rose_of}
use Rattle.pdh_script.specs.Scripts.{disturbed}
use Rattle.pdh_script.specs.Stored.{rows_in}
use Rattle.pdh_script.specs.declared.step.Step.{Step}
use Rattle.pdh_script.proofs.Parts.{after_start, start_fails}
use Rattle.pdh_script.proofs.script.Script.apply.Goals as goal

pub returns-in_err-start-clause-err : goal.returns-in_err-start-clause-err
returns-in_err-start-clause-err g c =
    let p = err_from_is_err_and c.from_residual.result c.from_residual.ensures.1 in
    rw (p.1, p.2)
    (start_fails (λ line. disturbed line c.args.self.now) c.args.bits (g.P.Feed.inputs c.args.port.now) (g.P.Feed.inputs c.start.new.self) (g.P.Drain.outputs c.args.port.now) (g.P.Drain.outputs c.start.new.self)
    (g.P.Feed.feed_faults c.args.port.now) (g.P.Feed.feed_faults c.start.new.self) (g.P.Drain.drain_faults c.args.port.now) (g.P.Drain.drain_faults c.start.new.self) c.start.ensures.inputs c.start.ensures.outputs (rose_of _ _ c.in_err-start.ensures.cause))

pub returns-clause-reads : goal.returns-clause-reads
returns-clause-reads g c = (after_start g.P.Feed g.P.Drain g.P.Port.kept _ _ _ _ _ c.disturb.result c.start.ensures.inputs c.start.ensures.outputs c.start.ensures.reads c.in_ok-start.ensures.cause c.disturb.ensures).0

pub returns-clause-writes : goal.returns-clause-writes
returns-clause-writes g c = (after_start g.P.Feed g.P.Drain g.P.Port.kept _ _ _ _ _ c.disturb.result c.start.ensures.inputs c.start.ensures.outputs c.start.ensures.reads c.in_ok-start.ensures.cause c.disturb.ensures).1

pub returns-clause-ok : goal.returns-clause-ok
returns-clause-ok g c =
    let same : rows_in c.deref.result.now c.deref-2.result.now ≡ c.args.self.now = ap (λ (steps : List Step). rows_in steps c.deref-2.result.now) c.deref.ensures.value ∙ ap (rows_in c.self.inside.rows.steps.items) c.deref-2.ensures.value ∙ c.self.view_is in
    rw (sym same) (after_start g.P.Feed g.P.Drain g.P.Port.kept _ _ _ _ _ c.disturb.result c.start.ensures.inputs c.start.ensures.outputs c.start.ensures.reads c.in_ok-start.ensures.cause c.disturb.ensures).2

pub returns-clause-err : goal.returns-clause-err
returns-clause-err g c =
    let same : rows_in c.deref.result.now c.deref-2.result.now ≡ c.args.self.now = ap (λ (steps : List Step). rows_in steps c.deref-2.result.now) c.deref.ensures.value ∙ ap (rows_in c.self.inside.rows.steps.items) c.deref-2.ensures.value ∙ c.self.view_is in
    rw (sym same) (after_start g.P.Feed g.P.Drain g.P.Port.kept _ _ _ _ _ c.disturb.result c.start.ensures.inputs c.start.ensures.outputs c.start.ensures.reads c.in_ok-start.ensures.cause c.disturb.ensures).3
