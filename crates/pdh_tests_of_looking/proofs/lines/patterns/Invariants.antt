use Rattle.std.proofs.Common.{◌≡◌, length}
use Rattle.pdh_tests_of_looking.proofs.lines.patterns.Given as goal

-- a list for each leaf so far
abbrev pub invariant-loop-leaf : goal.invariant-loop-leaf
invariant-loop-leaf l = length l.lists.items ≡ l.leaf
