use Rattle.std.proofs.Common.{◌≤◌, ◌-◌, take, drop}
use Rattle.pdh_events.specs.laws.QuietLaws.{AreOnes}
use Rattle.pdh_events.proofs.ais.leading_ones.Given as goal

-- so many ones
abbrev pub invariant-loop-done : goal.invariant-loop-done
invariant-loop-done l = (l.done ≤ l.count) × AreOnes (take l.done (drop l.from l.bits.bits))

abbrev pub decreases-loop-done : goal.decreases-loop-done
decreases-loop-done l = l.count - l.done
