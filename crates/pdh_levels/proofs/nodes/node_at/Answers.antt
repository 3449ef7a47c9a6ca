use Rattle.std.proofs.Common.{◌≡◌, ◌+◌, ◌-◌, ◌/◌, ◌%◌, ◌<◌, ◌∷◌, [], sym, subst, arith, drop, All}
use Rattle.std.proofs.lemmas.List.Elements.{All-drop}
use Rattle.pdh_levels.specs.Levels.{IsLevel, size_of}
use Rattle.pdh_levels.proofs.NodeOrder.{length-nodes_in}
use Rattle.pdh_levels.proofs.LevelLaws.{StandsAt, below_top, some_below, stands_top, stands_at_first, stands_at_second, first_small, second_small, size_below, node_steps}
use Rattle.pdh_levels.proofs.nodes.node_at.Goals.{After-node_count-size, Then-second-eq0, Else-second-eq0}
use Rattle.pdh_levels.proofs.nodes.node_at.Goals as goal

pub node_count-size-requires-clause-each : goal.node_count-size-requires-clause-each
node_count-size-requires-clause-each c = subst (All IsLevel) (sym (below_top c.args.levels.now)) (All-drop IsLevel 1 c.args.levels.now c.requires.levels.each)

inside : (c : After-node_count-size) → c.args.place < size_of c.args.levels.now
inside c = omega (arith, c.requires.inside, length-nodes_in c.args.levels.now)

some : (c : After-node_count-size) → 0 < c.args.place
some c = let other = c.if-place-eq0.false in omega arith

same : (c : After-node_count-size) → c.node_count-size.result ≡ size_of (drop 1 c.args.levels.now)
same c = size_below c.args.levels.now c.node_count-size.result c.node_count-size.ensures

pub nonzero_div-first : goal.nonzero_div-first
nonzero_div-first c = omega (arith, same c, some_below c.args.levels.now c.args.place (some c) (inside c))

pub nonzero_rem-second : goal.nonzero_rem-second
nonzero_rem-second c = omega (arith, same c, some_below c.args.levels.now c.args.place (some c) (inside c))

pub overflow_cast-first : goal.overflow_cast-first
overflow_cast-first c = record { fits = omega (arith, first_small c.args.levels.now c.args.place c.node_count-size.result c.requires.levels (some c) (inside c) (same c)) }

pub overflow_add-first : goal.overflow_add-first
overflow_add-first c = record { fits = omega (arith, first_small c.args.levels.now c.args.place c.node_count-size.result c.requires.levels (some c) (inside c) (same c)) }

pub overflow_cast-second : goal.overflow_cast-second
overflow_cast-second c = record { fits = omega (arith, second_small c.args.levels.now c.args.place c.node_count-size.result c.requires.levels (some c) (inside c) (same c)) }

stands_then : (c : Then-second-eq0) → StandsAt c.args.levels.now (((c.args.place - 1) / c.node_count-size.result + 1) ∷ []) c.args.place
stands_then c =
    let other = c.if-place-eq0.false in
    stands_at_first c.args.levels.now c.args.place c.node_count-size.result c.requires.levels (omega arith) (omega (arith, c.requires.inside, length-nodes_in c.args.levels.now))
    (size_below c.args.levels.now c.node_count-size.result c.node_count-size.ensures) c.if-second-eq0.true

stands_else : (c : Else-second-eq0) → StandsAt c.args.levels.now (((c.args.place - 1) / c.node_count-size.result + 1) ∷ (c.args.place - 1) % c.node_count-size.result ∷ []) c.args.place
stands_else c =
    let other = c.if-place-eq0.false in
    stands_at_second c.args.levels.now c.args.place c.node_count-size.result c.requires.levels (omega arith) (omega (arith, c.requires.inside, length-nodes_in c.args.levels.now))
    (size_below c.args.levels.now c.node_count-size.result c.node_count-size.ensures) c.if-second-eq0.false

pub returns-then-place-eq0-clause-steps : goal.returns-then-place-eq0-clause-steps
returns-then-place-eq0-clause-steps c = node_steps c.args.levels.now _ c.args.place (stands_top c.args.levels.now c.args.place c.requires.levels.some c.if-place-eq0.true)

pub returns-then-place-eq0-clause-known : goal.returns-then-place-eq0-clause-known
returns-then-place-eq0-clause-known c = (stands_top c.args.levels.now c.args.place c.requires.levels.some c.if-place-eq0.true).node

pub returns-then-second-eq0-clause-steps : goal.returns-then-second-eq0-clause-steps
returns-then-second-eq0-clause-steps c = node_steps c.args.levels.now _ c.args.place (stands_then c)

pub returns-then-second-eq0-clause-known : goal.returns-then-second-eq0-clause-known
returns-then-second-eq0-clause-known c = (stands_then c).node

pub returns-else-second-eq0-clause-steps : goal.returns-else-second-eq0-clause-steps
returns-else-second-eq0-clause-steps c = node_steps c.args.levels.now _ c.args.place (stands_else c)

pub returns-else-second-eq0-clause-known : goal.returns-else-second-eq0-clause-known
returns-else-second-eq0-clause-known c = (stands_else c).node
