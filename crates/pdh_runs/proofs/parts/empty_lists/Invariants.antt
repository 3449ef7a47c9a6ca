use Rattle.std.proofs.Common.{◌≡◌, length, All}
use Rattle.pdh_runs.proofs.parts.empty_lists.Given as goal

-- those so far
abbrev pub invariant-loop : goal.invariant-loop
invariant-loop l = record { count : length l.lists.items ≡ l.counter; room : All (λ list. list.capacity ≡ l.capacity) l.lists.items }
