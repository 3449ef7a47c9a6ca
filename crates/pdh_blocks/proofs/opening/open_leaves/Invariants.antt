use Rattle.std.proofs.Common.{◌≡◌, map, take}
use Rattle.pdh_blocks.specs.Opened.{unread_leaf}
use Rattle.pdh_blocks.proofs.opening.open_leaves.Given as goal

abbrev pub invariant-loop-source : goal.invariant-loop-source
invariant-loop-source l = l.leaves.items ≡ map unread_leaf (take l.source-index l.reads)
