use Rattle.std.proofs.Common.{◌≡◌, ◌≤◌, ◌-◌, take, drop}
use Rattle.pdh_packed.proofs.OnesLaws.{ones_of}
use Rattle.pdh_packed.proofs.packed.Packed.ones.Given as goal

abbrev pub invariant-loop-done : goal.invariant-loop-done
invariant-loop-done l = (l.done ≤ l.count) × (l.ones ≤ l.done) × (l.ones ≡ ones_of (take l.done (drop l.place l.self.bits)))

abbrev pub decreases-loop-done : goal.decreases-loop-done
decreases-loop-done l = l.count - l.done
