use Rattle.pdh_g706.proofs.SignalLaws.{signal_number}
use Rattle.pdh_e1_judging.proofs.multiframes.has_signal.Goals as goal

pub returns : goal.returns
returns c = signal_number c.args.line.now.bits c.read.result c.args.start c.number.result c.requires c.read.ensures c.number.ensures.bits c.number.ensures.small
