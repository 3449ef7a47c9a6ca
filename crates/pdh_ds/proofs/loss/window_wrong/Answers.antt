use Rattle.std.proofs.Common.{◌≡◌, ◌∙◌, sym, ap, arith}
use Rattle.std.specs.List.{range_with_len, list_any}
use Rattle.pdh_ds.specs.Loss.{ends_wrong, window_wrong}
use Rattle.pdh_ds.proofs.LossLaws.{any_at, none_push}
use Rattle.pdh_ds.proofs.loss.window_wrong.Goals as goal

pub returns-then-ends_wrong : goal.returns-then-ends_wrong
unfolding window_wrong
returns-then-ends_wrong c =
    sym (any_at (ends_wrong c.args.rule.now c.args.before.now c.args.here.now) 0 c.args.rule.now.framing c.loop-last.last (omega arith) (omega arith) (sym c.ends_wrong.ensures ∙ c.if-ends_wrong.true))

pub loop-last-preserved : goal.loop-last-preserved
loop-last-preserved c =
    none_push (ends_wrong c.args.rule.now c.args.before.now c.args.here.now) c.loop-last.last c.loop-last.invariant (sym c.ends_wrong.ensures ∙ c.if-ends_wrong.false)

pub returns : goal.returns
unfolding window_wrong
returns c =
    let whole : c.loop-last.last ≡ c.args.rule.now.framing = omega arith in
    sym (ap (λ n. list_any (ends_wrong c.args.rule.now c.args.before.now c.args.here.now) (range_with_len 0 n)) (sym whole) ∙ c.loop-last.invariant)
