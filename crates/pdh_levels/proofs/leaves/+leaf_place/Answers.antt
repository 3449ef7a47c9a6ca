use Rattle.std.proofs.Common.{arith}
use Rattle.pdh_levels.proofs.LeafLaws.{leaf_few, leaf_of_top, trib_of_top, are_below, each_below, leaf_below, leaf_node_is}
use Rattle.pdh_levels.proofs.leaves.+leaf_place.Goals as goal

pub overflow_cast-result : goal.overflow_cast-result
overflow_cast-result t c = record { fits = omega (arith, leaf_few c.args.levels.now c.args.leaf c.in-empty.len_below c.requires.levels c.requires.known) }

pub leaf_count-width-requires-clause-each : goal.leaf_count-width-requires-clause-each
leaf_count-width-requires-clause-each t c = each_below c.args.levels.now c.requires.levels.each

pub leaf_place-place-requires : goal.leaf_place-place-requires
leaf_place-place-requires t c = (
  omega arith,
  (
    are_below c.args.levels.now c.in-len1-up.len_at_least c.requires.levels,
    (leaf_below c.args.levels.now c.leaf_count-width.result c.args.leaf c.in-len1-up.len_at_least c.requires.levels c.requires.known c.leaf_count-width.ensures).known,
  ),
)

pub overflow_cast-result-in-len1-up : goal.overflow_cast-result-in-len1-up
overflow_cast-result-in-len1-up t c = record {
  fits = omega (arith, (leaf_below c.args.levels.now c.leaf_count-width.result c.args.leaf c.in-len1-up.len_at_least c.requires.levels c.requires.known c.leaf_count-width.ensures).few);
}

pub overflow_add-result-in-len1-up : goal.overflow_add-result-in-len1-up
overflow_add-result-in-len1-up t c = record {
  fits = omega (arith, (leaf_below c.args.levels.now c.leaf_count-width.result c.args.leaf c.in-len1-up.len_at_least c.requires.levels c.requires.known c.leaf_count-width.ensures).few);
}

pub returns-in-empty-clause-node : goal.returns-in-empty-clause-node
returns-in-empty-clause-node t c = leaf_of_top c.args.levels.now c.args.leaf c.in-empty.len_below

pub returns-in-empty-clause-trib : goal.returns-in-empty-clause-trib
returns-in-empty-clause-trib t c = trib_of_top c.args.levels.now c.args.leaf c.in-empty.len_below

pub returns-in-len1-up-clause-node : goal.returns-in-len1-up-clause-node
returns-in-len1-up-clause-node t c =
    leaf_node_is c.args.levels.now c.leaf_count-width.result c.args.leaf c.leaf_place-place.result.node c.in-len1-up.len_at_least c.requires.levels.few c.leaf_count-width.ensures c.leaf_place-place.ensures.node
