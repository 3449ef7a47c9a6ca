use Rattle.std.proofs.Common.{◌≡◌, take}
use Rattle.std.specs.Prelude.{fold}
use Rattle.pdh_standing.specs.Counting.{walked, walk_begun}
use Rattle.pdh_standing.proofs.tally.count_lower.Given as goal

-- past the nodes so far
abbrev pub invariant-loop-node : goal.invariant-loop-node
invariant-loop-node l = l.walk ≡ fold walked walk_begun (take l.node-index l.nodes)
