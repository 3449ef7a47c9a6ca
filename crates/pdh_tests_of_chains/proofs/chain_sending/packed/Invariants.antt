use Rattle.std.proofs.Common.{◌≡◌, length}
use Rattle.pdh_tests_of_chains.proofs.chain_sending.packed.Given as goal

-- as many lists as so far
abbrev pub invariant-loop-list : goal.invariant-loop-list
invariant-loop-list l = length l.packed.items ≡ l.list-index
