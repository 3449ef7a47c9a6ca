use Rattle.std.proofs.Common.{length}
use Rattle.pdh_levels.proofs.leaves.+leaf_place.Given as goal

abbrev pub decreases-leaf_place : goal.decreases-leaf_place
decreases-leaf_place l = length l.levels.now
