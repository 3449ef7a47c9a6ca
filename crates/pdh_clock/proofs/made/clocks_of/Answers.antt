use Rattle.std.proofs.Common.{arith}
use Rattle.pdh_levels.proofs.LevelLaws.{inside_two}
use Rattle.pdh_clock.proofs.Begins.{some_below_top}
use Rattle.pdh_clock.proofs.made.clocks_of.Goals as goal

pub below-first-requires : goal.below-first-requires
below-first-requires c = omega (arith, some_below_top c.args.levels.now c.args.node.now c.if-node-eq0.false c.requires)

pub below-requires : goal.below-requires
below-requires c =
    omega (arith, c.below-first.ensures.height, inside_two c.args.levels.now c.args.node.now c.if-node-eq0.false c.if-node-eq1.false c.requires)
