-- The lists of two ports as those of one: the lists below a number are the one's, and those from it on the other's.
use Rattle.std.specs.Prelude.{ℕ, ◌+◌, ◌-◌, ◌^◌, min, nat_lt, if◌then◌else◌}
use Rattle.pdh_edge.specs.Ports.{Outputs}

-- what the one tells of its lists, and behind those what the other tells of its
abbrev pub first_then : {X : Type 0} → ℕ → (ℕ → X) → (ℕ → X) → ℕ → X
first_then from first second k = (if nat_lt k from then first k else second (k - from))

abbrev pub split_outputs : ℕ → Outputs → Outputs → Outputs
split_outputs from first second = record { holds = first_then from first.holds second.holds; told = first_then from first.told second.told }

-- how many calls of either have failed, where a count that reaches its type's end stands there
abbrev pub both_faults : ℕ → ℕ → ℕ
both_faults first second = min (first + second) (2 ^ 64 - 1)
