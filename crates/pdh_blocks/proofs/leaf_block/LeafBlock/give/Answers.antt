use Rattle.std.proofs.Common.{arith}
use Rattle.pdh_blocks.proofs.Waiting.{gives}
use Rattle.pdh_blocks.proofs.leaf_block.LeafBlock.give.Goals as goal

pub returns-clause-leaf : goal.returns-clause-leaf
returns-clause-leaf c =
    let leaf = c.self.inside in
    gives c.args.self.now _ leaf.bits leaf.given leaf.taken leaf.end c.min-count.result leaf.block.bits c.self.view_is (omega (arith, c.min-count.ensures))
