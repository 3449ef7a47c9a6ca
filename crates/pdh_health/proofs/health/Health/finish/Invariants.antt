use Rattle.pdh_health.proofs.Finding.{FoundEach}
use Rattle.pdh_health.proofs.health.Health.finish.Given as goal

-- what was found of the first nodes
abbrev pub invariant-loop-node : goal.invariant-loop-node
invariant-loop-node l = record { found : FoundEach l.bits l.numbers l.yielded l.found.items }
