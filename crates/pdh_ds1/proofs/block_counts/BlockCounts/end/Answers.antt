use Rattle.std.proofs.Common.{refl}
use Rattle.pdh_ds1.proofs.MachineLaws.{gap_judged}
use Rattle.pdh_ds1.proofs.block_counts.BlockCounts.end.Goals as goal

pub returns : goal.returns
returns c = λ pieces n judges. gap_judged c.args.self.now _ pieces n judges refl
