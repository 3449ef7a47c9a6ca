use Rattle.std.proofs.Common.{◌+◌, drop, get_or, refl, ◌∙◌, arith}
use Rattle.std.proofs.lemmas.List.{drop_all}
use Rattle.std.proofs.lemmas.Result.{err_from_is_err_and}
use Rattle.pdh_edge.proofs.Progress.{starts, fails}
use Rattle.pdh_script.specs.Stored.{rows_in}
use Rattle.pdh_script.proofs.Disturbing.{disturbing_begins, kept_goes_on, change_goes_on, end_goes_on, no_step}
use Rattle.pdh_script.proofs.passing.disturb.Goals as goal

pub loop-step-init : goal.loop-step-init
loop-step-init g c = record {
  capacity = refl;
  disturbs = starts (g.met.P.Port.kept_same c.args.port.now) (disturbing_begins c.args.bits c.args.steps.now c.args.bytes.now (g.P.Feed.inputs c.args.port.now) (g.P.Drain.outputs c.args.port.now) c.requires.fit c.requires.enough);
}

pub returns-in_err-pass : goal.returns-in_err-pass
returns-in_err-pass g c =
    let p = err_from_is_err_and c.from_residual.result c.from_residual.ensures.1 in
    rw (p.1, p.2)
    (fails (kept_goes_on g.P.Feed g.P.Drain g.P.Port.kept (rows_in c.args.steps.now c.args.bytes.now) c.args.bits c.loop-step.place c.args.steps.now c.loop-step.step-index c.loop-step.added.now _ _ _ _ (g.met.P.Port.kept_join _ _ _) (omega (arith, c.loop-step-test.true))
    c.from.result c.from.ensures c.loop-step.invariant.disturbs c.in_err-pass.ensures.passed))

pub returns-in_err-make_change : goal.returns-in_err-make_change
returns-in_err-make_change g c =
    let p = err_from_is_err_and c.from_residual-in_err-make_change.result c.from_residual-in_err-make_change.ensures.1 in
    let steps = c.args.steps.now in
    let i = c.loop-step.step-index in
    let before = kept_goes_on g.P.Feed g.P.Drain g.P.Port.kept (rows_in steps c.args.bytes.now) c.args.bits c.loop-step.place steps i c.loop-step.added.now _ _ _ _ (g.met.P.Port.kept_join _ _ _) (omega (arith, c.loop-step-test.true))
    c.from.result c.from.ensures c.loop-step.invariant.disturbs c.in_ok-pass.ensures.passed in
    rw (p.1, p.2)
    (fails (change_goes_on g.P.Feed g.P.Drain g.P.Port.kept (rows_in steps c.args.bytes.now) c.args.bits c.from.result (get_or steps i no_step) (drop (i + 1) steps) c.loop-step.added.now _ _ _ _ (g.met.P.Port.kept_join _ _ _) c.from.ensures
    _ _ refl refl before c.in_err-make_change.ensures.passed))

pub loop-step-preserved : goal.loop-step-preserved
loop-step-preserved g c =
    let steps = c.args.steps.now in
    let i = c.loop-step.step-index in
    let before = kept_goes_on g.P.Feed g.P.Drain g.P.Port.kept (rows_in steps c.args.bytes.now) c.args.bits c.loop-step.place steps i c.loop-step.added.now _ _ _ _ (g.met.P.Port.kept_join _ _ _) (omega (arith, c.loop-step-test.true))
    c.from.result c.from.ensures c.loop-step.invariant.disturbs c.in_ok-pass.ensures.passed in
    record {
      capacity = c.in_ok-make_change.ensures.capacity ∙ c.in_ok-pass.ensures.capacity ∙ c.loop-step.invariant.capacity;
      disturbs = change_goes_on g.P.Feed g.P.Drain g.P.Port.kept (rows_in steps c.args.bytes.now) c.args.bits c.from.result (get_or steps i no_step) (drop (i + 1) steps) c.loop-step.added.now _ _ _ _ (g.met.P.Port.kept_join _ _ _) c.from.ensures
          c.end-place.result c.bytes.result (c.end-place.ensures c.loop-step.added.now) c.bytes.ensures before c.in_ok-make_change.ensures.passed;
    }

pub returns : goal.returns
returns g c =
    end_goes_on g.P.Feed g.P.Drain g.P.Port.kept (rows_in c.args.steps.now c.args.bytes.now) c.args.bits c.loop-step.place (drop c.loop-step.step-index c.args.steps.now) c.loop-step.added.now _ _ _ c.pass-2.result (g.met.P.Port.kept_join _ _ _)
    (drop_all c.loop-step.step-index c.args.steps.now (omega (arith, c.loop-step-test.false))) c.loop-step.invariant.disturbs c.pass-2.ensures.passed
