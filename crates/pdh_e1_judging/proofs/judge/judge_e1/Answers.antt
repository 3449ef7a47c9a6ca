use Rattle.std.proofs.Common.{◌≡◌, ◌+◌, ℕ, take, ap, ◌∙◌, subst, arith}
use Rattle.std.proofs.lemmas.List.{take_all}
use Rattle.pdh_e1_judging.specs.Judged.{e1_judged_in}
use Rattle.pdh_e1_judging.specs.Judging.{JudgingStands}
use Rattle.pdh_e1_judging.proofs.judge.judge_e1.Goals as goal

pub loop-done-init : goal.loop-done-init
loop-done-init c =
    let place : 0 + c.skip-done.result ≡ c.skip-done.result = omega arith in
    let judging = c.skip-done.new.self in
    record {
      within = omega (arith, c.skip-done.ensures.count);
      stands = subst (λ (n : ℕ). JudgingStands judging.align judging.came judging.judged (take n c.args.line.now.bits)) place c.skip-done.ensures.stands;
    }

pub returns : goal.returns
returns c =
    let all : take c.loop-done.done c.args.line.now.bits ≡ c.args.line.now.bits = take_all c.loop-done.done c.args.line.now.bits (omega (arith, c.loop-done-test.false, c.len-len.ensures.count)) in
    c.loop-done.invariant.stands.judged_is ∙ ap e1_judged_in all
