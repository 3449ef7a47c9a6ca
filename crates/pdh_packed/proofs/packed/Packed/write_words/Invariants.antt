use Rattle.std.proofs.Common.{◌≡◌, ◌≤◌, ◌-◌, ◌++◌, length, take, drop}
use Rattle.pdh_bits.specs.Bits.{bytes_of}
use Rattle.pdh_packed.proofs.packed.Packed.write_words.Given as goal

abbrev pub invariant-loop-into : goal.invariant-loop-into
invariant-loop-into l = (l.done ≤ length l.into) × (l.into ≡ take l.done (bytes_of (drop l.place l.self.bits)) ++ drop l.done l.initial.into)

abbrev pub decreases-loop-into : goal.decreases-loop-into
decreases-loop-into l = length l.into - l.done
