use Rattle.std.proofs.Common.{◌≡◌, ◌≤◌, ◌-◌, ◌++◌, map, drop}
use Rattle.pdh_packed.specs.Words.{bounded}
use Rattle.pdh_interleaving.specs.Interleaving.{interleaved}
use Rattle.pdh_interleaving.proofs.turns.interleave.Given as goal

abbrev pub invariant-loop-done : goal.invariant-loop-done
invariant-loop-done l = (l.done ≤ l.each) × (l.line ≡ bounded l.initial.line.capacity (l.initial.line.bits ++ interleaved (map (λ t. drop l.place t.bits) l.tributaries) l.done))

abbrev pub decreases-loop-done : goal.decreases-loop-done
decreases-loop-done l = l.each - l.done
