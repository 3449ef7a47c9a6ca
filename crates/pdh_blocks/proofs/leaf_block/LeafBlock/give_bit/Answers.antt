use Rattle.std.proofs.Common.{◌≡◌, ◌<◌, ◌-◌, length, take, drop, ap, ◌∙◌, sym, arith}
use Rattle.std.proofs.lemmas.List.{length-take}
use Rattle.pdh_blocks.specs.Leaves.{Leaf}
use Rattle.pdh_blocks.proofs.Waiting.{first_waiting}
use Rattle.pdh_blocks.proofs.leaf_block.LeafBlock.give_bit.Goals as goal

pub returns-clause-given : goal.returns-clause-given
returns-clause-given c =
    let leaf = c.self.inside in
    let seen : c.args.self.now.waiting ≡ take (leaf.end - leaf.taken) (drop leaf.taken leaf.block.bits) = sym (ap (λ (leaf : Leaf). leaf.waiting) c.self.view_is) in
    let some : leaf.taken < leaf.end = omega (arith, c.requires.some, ap length seen, length-take (leaf.end - leaf.taken) (drop leaf.taken leaf.block.bits)) in
    seen ∙ first_waiting leaf.taken leaf.end leaf.block.bits c.get-bit.result some c.self.invariant.1 c.get-bit.ensures
