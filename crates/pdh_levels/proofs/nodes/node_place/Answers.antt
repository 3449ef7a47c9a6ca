use Rattle.std.proofs.Common.{◌∙◌, ◌+◌, ◌*◌, ap, sym, subst, arith, All}
use Rattle.std.proofs.lemmas.List.Elements.{All-drop}
use Rattle.pdh_levels.specs.Levels.{IsLevel, place_of}
use Rattle.pdh_levels.proofs.LevelLaws.{below_top, first_step, second_step, steps_top, place_none, trees_before, place_of_one, place_of_two, size_below}
use Rattle.pdh_levels.proofs.nodes.node_place.Goals as goal

pub returns-then-node-eq0 : goal.returns-then-node-eq0
returns-then-node-eq0 c =
    sym (ap (place_of c.args.levels.now) (steps_top c.args.node.now c.if-node-eq0.true) ∙ place_none c.args.levels.now)

pub overflow_sub-node : goal.overflow_sub-node
overflow_sub-node c = (first_step c.args.levels.now c.args.node.now c.requires.levels.each c.if-node-eq0.false c.requires.node).0

pub node_count-requires-clause-each : goal.node_count-requires-clause-each
node_count-requires-clause-each c = subst (All IsLevel) (sym (below_top c.args.levels.now)) (All-drop IsLevel 1 c.args.levels.now c.requires.levels.each)

pub overflow_mul-before : goal.overflow_mul-before
overflow_mul-before c =
    let size = size_below c.args.levels.now c.node_count.result c.node_count.ensures in
    record { fits = omega (arith, trees_before c.args.levels.now c.args.node.now c.from.result c.node_count.result c.requires.levels c.if-node-eq0.false c.requires.node c.from.ensures size) }

pub overflow_add-result : goal.overflow_add-result
overflow_add-result c =
    let size = size_below c.args.levels.now c.node_count.result c.node_count.ensures in
    record { fits = omega (arith, trees_before c.args.levels.now c.args.node.now c.from.result c.node_count.result c.requires.levels c.if-node-eq0.false c.requires.node c.from.ensures size) }

pub overflow_add-result-else-node-eq1 : goal.overflow_add-result-else-node-eq1
overflow_add-result-else-node-eq1 c =
    let size = size_below c.args.levels.now c.node_count.result c.node_count.ensures in
    record { fits = omega (arith, trees_before c.args.levels.now c.args.node.now c.from.result c.node_count.result c.requires.levels c.if-node-eq0.false c.requires.node c.from.ensures size) }

pub overflow_add-result-else-node-eq1-2 : goal.overflow_add-result-else-node-eq1-2
overflow_add-result-else-node-eq1-2 c =
    let size = size_below c.args.levels.now c.node_count.result c.node_count.ensures in
    let second = (second_step c.args.levels.now c.args.node.now c.requires.levels.each c.if-node-eq0.false c.if-node-eq1.false c.requires.node).1 in
    record { fits = omega (arith, second, c.from-else-node-eq1.ensures, trees_before c.args.levels.now c.args.node.now c.from.result c.node_count.result c.requires.levels c.if-node-eq0.false c.requires.node c.from.ensures size) }

pub returns-then-node-eq1 : goal.returns-then-node-eq1
returns-then-node-eq1 c =
    let size = size_below c.args.levels.now c.node_count.result c.node_count.ensures in
    place_of_one c.args.levels.now c.args.node.now c.from.result c.node_count.result c.if-node-eq1.true c.requires.node c.from.ensures size

pub returns-else-node-eq1 : goal.returns-else-node-eq1
returns-else-node-eq1 c =
    let size = size_below c.args.levels.now c.node_count.result c.node_count.ensures in
    ap (λ n. 1 + c.from.result * c.node_count.result + n) c.from-else-node-eq1.ensures
    ∙ place_of_two c.args.levels.now c.args.node.now c.from.result c.node_count.result c.requires.levels.few c.if-node-eq0.false c.if-node-eq1.false c.requires.node c.from.ensures size
