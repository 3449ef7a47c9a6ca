use Rattle.pdh_ds.proofs.LossLaws.{counted_push}
use Rattle.pdh_ds.proofs.loss.wrong_from.Goals as goal

pub loop-k-preserved : goal.loop-k-preserved
loop-k-preserved c =
    counted_push c.args.rule.now c.args.before.now c.args.here.now c.args.first c.loop-k.k c.loop-k.wrong c.one_if-wrong.result c.wrong_of_two.result c.loop-k.invariant c.wrong_of_two.ensures c.one_if-wrong.ensures
