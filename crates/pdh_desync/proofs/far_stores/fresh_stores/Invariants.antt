use Rattle.std.proofs.Common.{◌≡◌, replicate}
use Rattle.pdh_desync.specs.Held.{fresh_store}
use Rattle.pdh_desync.proofs.far_stores.fresh_stores.Given as goal

-- so many are made
abbrev pub invariant-loop : goal.invariant-loop
invariant-loop g l = l.stores.items ≡ replicate l.counter (fresh_store g.S.Shape.LOW)
