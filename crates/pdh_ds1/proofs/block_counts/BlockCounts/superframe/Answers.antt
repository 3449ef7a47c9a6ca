use Rattle.pdh_ds1.proofs.MachineLaws.{superframe_judged}
use Rattle.pdh_ds1.proofs.block_counts.BlockCounts.superframe.Goals as goal

pub returns : goal.returns
returns c = λ pieces judges. superframe_judged c.args.self.now c.after.result pieces c.args.superframe.now.bits c.carried.result c.word_of.result judges c.carried.ensures c.word_of.ensures.word c.after.ensures
