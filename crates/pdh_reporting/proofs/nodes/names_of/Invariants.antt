-- as many names as nodes so far
use Rattle.std.proofs.Common.{◌≡◌, length}
use Rattle.pdh_reporting.proofs.nodes.names_of.Given as goal

abbrev pub invariant-loop-node : goal.invariant-loop-node
invariant-loop-node l = length l.names.items ≡ l.node-index
