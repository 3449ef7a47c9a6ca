use Rattle.std.proofs.Common.{◌≡◌, ◌+◌, ◌-◌, suc, subst, arith, ℕ}
use Rattle.pdh_rows.specs.Flows.{flow_count}
use Rattle.pdh_rows.specs.Inside.{FillsPass, FillsPassAll}
use Rattle.pdh_rows.proofs.FlowLaws.{product-fits}
use Rattle.pdh_rows.proofs.Fills.{pass_none, pass_more, steps_of}
use Rattle.pdh_rows.proofs.inside.Fills.behind_frames.Goals as goal

pub returns-then-keeps_step : goal.returns-then-keeps_step
returns-then-keeps_step c = steps_of c.behind_steps.result c.args.self c.args.row.now.flow c.args.low c.args.first _ c.requires.fits.some (c.keeps_step.ensures c.if-keeps_step.true) c.behind_steps.ensures

pub loop-frame-init : goal.loop-frame-init
loop-frame-init c = pass_none c.args.low (flow_count c.args.row.now.flow) c.args.first _ c.args.self (omega arith)

pub count-requires-clause-few : goal.count-requires-clause-few
count-requires-clause-few c = omega (arith, product-fits c.args.row.now.flow c.args.row.now.frames (suc c.loop-frame.frame) c.requires.fits (omega (arith, c.loop-frame-test.true, c.requires.inside)))

pub loop-frame-preserved : goal.loop-frame-preserved
loop-frame-preserved c =
    let f = flow_count c.args.row.now.flow in
    let low = c.args.low in
    let first = c.args.first in
    let k : ℕ = c.loop-frame.frame - first in
    let place : c.loop-frame.frame ≡ first + k = omega (arith, c.loop-frame.auto.frame) in
    let more : suc k ≡ c.loop-frame.frame + 1 - first = omega (arith, c.loop-frame.auto.frame) in
    let now = c.in_ok-fills in
    subst (λ (n : ℕ). FillsPassAll low f first n c.args.self now.fills) more
    (pass_more low f first k c.args.self c.loop-frame.fills now.fills c.loop-frame.invariant
    (subst (λ (n : ℕ). FillsPass low (f n) c.loop-frame.fills now.fills) place
    (subst (λ (n : ℕ). FillsPass low n c.loop-frame.fills now.fills) c.count.ensures now.ensures)))

pub returns : goal.returns
returns c =
    let all : c.loop-frame.frame - c.args.first ≡ c.args.end - c.args.first = omega (arith, c.loop-frame-test.false, c.loop-frame.auto.frame-end c.requires.order) in
    subst (λ (n : ℕ). FillsPassAll c.args.low (flow_count c.args.row.now.flow) c.args.first n c.args.self c.loop-frame.fills) all c.loop-frame.invariant
