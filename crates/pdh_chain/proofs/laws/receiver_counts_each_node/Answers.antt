use Rattle.pdh_chain.proofs.Counted.{counts_are}
use Rattle.pdh_chain.proofs.laws.receiver_counts_each_node.Goals as goal

pub returns : goal.returns
returns c shapes path leaf line = counts_are shapes path leaf line
