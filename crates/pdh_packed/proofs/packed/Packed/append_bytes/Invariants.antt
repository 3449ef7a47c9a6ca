use Rattle.std.proofs.Common.{◌≡◌, ◌≤◌, ◌-◌, ◌++◌, length, take}
use Rattle.pdh_bits.specs.Bits.{bits_of}
use Rattle.pdh_packed.specs.Words.{bounded}
use Rattle.pdh_packed.proofs.packed.Packed.append_bytes.Given as goal

abbrev pub invariant-loop-done : goal.invariant-loop-done
invariant-loop-done l = (l.done ≤ length l.bytes) × (l.self ≡ bounded l.initial.self.capacity (l.initial.self.bits ++ bits_of (take l.done l.bytes)))

abbrev pub decreases-loop-done : goal.decreases-loop-done
decreases-loop-done l = length l.bytes - l.done
