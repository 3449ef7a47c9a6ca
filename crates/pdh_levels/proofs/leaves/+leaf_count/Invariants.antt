use Rattle.std.proofs.Common.{length}
use Rattle.pdh_levels.proofs.leaves.+leaf_count.Given as goal

abbrev pub decreases-leaf_count : goal.decreases-leaf_count
decreases-leaf_count l = length l.levels.now
