use Rattle.std.proofs.Common.{length}
use Rattle.pdh_levels.proofs.frame.+delay_below.Given as goal

abbrev pub decreases-delay_below : goal.decreases-delay_below
decreases-delay_below l = length l.levels.now
