use Rattle.std.proofs.Common.{◌≤◌, length, ap, arith}
use Rattle.pdh_line.specs.Paths.{steps_of}
use Rattle.pdh_levels.proofs.LevelLaws.{level_by_place, inside_one, inside_two, steps_one, steps_two}
use Rattle.pdh_levels.proofs.nodes.level_of.Goals as goal

pub bounds-levels-1 : goal.bounds-levels-1
bounds-levels-1 c = inside_one c.args.levels.now c.args.node.now c.in-1.is c.requires.node

pub bounds-levels-2 : goal.bounds-levels-2
bounds-levels-2 c =
    let deep : 2 ≤ c.args.node.now.depth = omega arith in
    inside_two c.args.levels.now c.args.node.now (λ e. omega arith) (λ e. omega arith) c.requires.node

pub returns-in-1 : goal.returns-in-1
returns-in-1 c = level_by_place c.args.levels.now (steps_of c.args.node.now) 1 _ c.requires.node (ap length (steps_one c.args.node.now c.in-1.is))

pub returns-in_default : goal.returns-in_default
returns-in_default c =
    let deep : 2 ≤ c.args.node.now.depth = omega arith in
    level_by_place c.args.levels.now (steps_of c.args.node.now) 2 _ c.requires.node (ap length (steps_two c.args.node.now (λ e. omega arith) (λ e. omega arith)))
