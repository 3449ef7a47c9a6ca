-- what is known of the nodes so far
use Rattle.std.proofs.Common.{◌≡◌, take}
use Rattle.pdh_named_lines.specs.Levels.{plans_of as plans_by}
use Rattle.pdh_named_lines.proofs.lines.plans_of.Given as goal

abbrev pub invariant-loop-node : goal.invariant-loop-node
invariant-loop-node g l = l.plans.items ≡ plans_by l.word (take l.node-index l.node-items)
