use Rattle.std.proofs.Common.{◌-◌, take, drop}
use Rattle.pdh_events.specs.laws.QuietLaws.{AreOnes}
use Rattle.pdh_events.proofs.ais.trailing_ones.Given as goal

-- so many ones
abbrev pub invariant-loop-ones : goal.invariant-loop-ones
invariant-loop-ones l = AreOnes (drop (l.count - l.ones) (take l.count (drop l.from l.bits.bits)))
