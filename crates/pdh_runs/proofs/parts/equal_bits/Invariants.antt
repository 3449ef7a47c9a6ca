use Rattle.std.proofs.Common.{◌≡◌, replicate}
use Rattle.pdh_packed.specs.Words.{bounded}
use Rattle.pdh_runs.proofs.parts.equal_bits.Given as goal

-- those so far
abbrev pub invariant-loop : goal.invariant-loop
invariant-loop l = l.bits ≡ bounded l.count (replicate l.counter l.bit)
