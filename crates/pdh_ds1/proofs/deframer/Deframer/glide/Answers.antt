use Rattle.std.proofs.Common.{◌+◌, ◌<◌, ◌++◌, take, drop, ap, ◌∙◌, arith}
use Rattle.std.proofs.Math.Seq.{take-add}
use Rattle.std.proofs.lemmas.List.{drop-drop}
use Rattle.pdh_framed.proofs.TakeLaws.{quietly_none, quietly_join}
use Rattle.pdh_ds1.specs.declared.plan.SuperframePlan.{SuperframePlan}
use Rattle.pdh_ds1.proofs.deframer.Deframer.glide.Goals as goal

pub loop-done-init : goal.loop-done-init
loop-done-init g c = record { within = omega (arith, c.requires); taken = quietly_none _ _ }

pub returns-then-count-PLAN-clause-taken : goal.returns-then-count-PLAN-clause-taken
returns-then-count-PLAN-clause-taken g c =
    let rest = drop c.args.from c.args.bits.now.bits in
    let n = c.loop-done.done in
    let k = c.idle-count.result in
    quietly_join _ (take n rest) (take k (drop (c.args.from + n) c.args.bits.now.bits)) (take (n + k) rest) _ _ _
    (take-add n k rest ∙ ap (λ x. take n rest ++ take k x) (drop-drop n c.args.from c.args.bits.now.bits)) c.loop-done.invariant.taken c.idle-count.ensures.taken

pub loop-done-preserved : goal.loop-done-preserved
loop-done-preserved g c =
    let rest = drop c.args.from c.args.bits.now.bits in
    let n = c.loop-done.done in
    let k = c.idle-count.result in
    record {
      within = omega (arith, c.idle-count.ensures.count);
      taken = quietly_join _ (take n rest) (take k (drop (c.args.from + n) c.args.bits.now.bits)) (take (n + k) rest) _ _ _
          (take-add n k rest ∙ ap (λ x. take n rest ++ take k x) (drop-drop n c.args.from c.args.bits.now.bits)) c.loop-done.invariant.taken c.idle-count.ensures.taken;
    }

pub loop-done-smaller : goal.loop-done-smaller
loop-done-smaller g c =
    let plan = g.met.P.InSuperframe.is_plan in
    let some : 0 < c.idle-count.result = omega (arith, plan.whole, plan.some, ap (λ (p : SuperframePlan). p.len) c.PLAN.ensures) in
    omega (arith, some, c.idle-count.ensures.count)
