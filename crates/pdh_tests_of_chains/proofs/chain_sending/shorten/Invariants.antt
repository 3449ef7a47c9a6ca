use Rattle.std.proofs.Common.{◌≡◌, length}
use Rattle.pdh_tests_of_chains.proofs.chain_sending.shorten.Given as goal

-- there are as many lists
abbrev pub invariant-loop-leaf : goal.invariant-loop-leaf
invariant-loop-leaf l = length l.lists.items ≡ length l.fn.lists.items
