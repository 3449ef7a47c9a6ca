use Rattle.std.proofs.Common.{arith}
use Rattle.pdh_levels.proofs.LevelLaws.{one_more, nodes_few}
use Rattle.pdh_levels.proofs.nodes.+node_count.Goals as goal

pub overflow_mul-result : goal.overflow_mul-result
overflow_mul-result t c = record {
  fits = omega (arith, nodes_few c.args.levels.now _ c.requires.few c.requires.each (one_more c.args.levels.now c.from.result c.node_count.result _ c.in-len1-up.len_at_least c.from.ensures c.node_count.ensures));
}

pub overflow_add-result : goal.overflow_add-result
overflow_add-result t c = record {
  fits = omega (arith, nodes_few c.args.levels.now _ c.requires.few c.requires.each (one_more c.args.levels.now c.from.result c.node_count.result _ c.in-len1-up.len_at_least c.from.ensures c.node_count.ensures));
}

pub returns-in-len1-up : goal.returns-in-len1-up
returns-in-len1-up t c = one_more c.args.levels.now c.from.result c.node_count.result _ c.in-len1-up.len_at_least c.from.ensures c.node_count.ensures
