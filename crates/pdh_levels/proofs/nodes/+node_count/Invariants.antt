use Rattle.std.proofs.Common.{length}
use Rattle.pdh_levels.proofs.nodes.+node_count.Given as goal

abbrev pub decreases-node_count : goal.decreases-node_count
decreases-node_count l = length l.levels.now
