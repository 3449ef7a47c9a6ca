use Rattle.std.proofs.Common.{◌≡◌, replicate, true}
use Rattle.pdh_shape.specs.OwnNumbers.{threshold}
use Rattle.pdh_desync.proofs.far_store.FarStore.open.Given as goal

-- so many ones are in
abbrev pub invariant-loop : goal.invariant-loop
invariant-loop l = l.held ≡ record { capacity = threshold; bits = replicate l.counter true }
