use Rattle.std.proofs.Common.{◌≡◌, length}
use Rattle.pdh_desync.proofs.node.mutes.Given as goal

-- so many are made
abbrev pub invariant-loop : goal.invariant-loop
invariant-loop g l = length l.mutes.items ≡ l.counter
