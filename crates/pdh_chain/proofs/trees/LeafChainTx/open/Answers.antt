use Rattle.std.proofs.Common.{sym, ◌∙◌}
use Rattle.pdh_chain.proofs.Senders.{leaf-is}
use Rattle.pdh_chain.proofs.trees.LeafChainTx.open.Goals as goal

pub returns-clause-meaning : goal.returns-clause-meaning
returns-clause-meaning c = c.new-leaf.ensures.meaning ∙ sym (leaf-is c.args._path c.args.next.now)
