use Rattle.std.proofs.Common.{◌≡◌, ◌≤◌, ◌-◌, ◌++◌, take, drop}
use Rattle.pdh_packed.specs.Words.{bounded}
use Rattle.pdh_packed.proofs.ring.BitRing.append_to.Given as goal

abbrev pub invariant-loop-done : goal.invariant-loop-done
invariant-loop-done l = (l.done ≤ l.count) × (l.list ≡ bounded l.initial.list.capacity (l.initial.list.bits ++ take l.done (drop l.place l.self.bits)))

abbrev pub decreases-loop-done : goal.decreases-loop-done
decreases-loop-done l = l.count - l.done
