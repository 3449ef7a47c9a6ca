-- the numbers of the nodes so far
use Rattle.std.proofs.Common.{◌≡◌, map, take}
use Rattle.pdh_following.specs.Numbers.{numbers_of as numbers_of_counts}
use Rattle.pdh_following.proofs.numbers.numbers_of.Given as goal

abbrev pub invariant-loop-node : goal.invariant-loop-node
invariant-loop-node g l = l.numbers.items ≡ map numbers_of_counts (take l.node-index l.node-items)
