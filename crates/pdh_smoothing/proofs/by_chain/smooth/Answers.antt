use Rattle.pdh_smoothing.proofs.Single.{not_single}
use Rattle.pdh_smoothing.proofs.by_chain.smooth.Goals as goal

pub unreachable-unreachable : goal.unreachable-unreachable
unreachable-unreachable g c = not_single c.args.chain c.requires.single c.in_default.not-E12 c.in_default.not-E23 c.in_default.not-E34 c.in_default.not-M12 c.in_default.not-M23
