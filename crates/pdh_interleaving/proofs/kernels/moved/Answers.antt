use Rattle.pdh_interleaving.proofs.EightLaws.{moved_law}
use Rattle.pdh_interleaving.proofs.kernels.moved.Goals as goal

pub returns : goal.returns
returns c k = moved_law c.args.word c.args.kept c.args.others c.args.by k
