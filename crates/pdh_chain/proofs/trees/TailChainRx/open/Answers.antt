use Rattle.std.proofs.Common.{sym, ◌∙◌}
use Rattle.pdh_chain.proofs.Receivers.{leaf-is}
use Rattle.pdh_chain.proofs.trees.TailChainRx.open.Goals as goal

pub returns-clause-meaning : goal.returns-clause-meaning
returns-clause-meaning c = c.new-tail.ensures.meaning ∙ sym (leaf-is c.args._path c.args.next.now)
