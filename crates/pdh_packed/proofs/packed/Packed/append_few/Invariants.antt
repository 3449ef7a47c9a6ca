use Rattle.std.proofs.Common.{◌≡◌, ◌++◌, take}
use Rattle.pdh_bits.specs.Bits.{bits_of}
use Rattle.pdh_packed.specs.Words.{bounded}
use Rattle.pdh_packed.proofs.packed.Packed.append_few.Given as goal

abbrev pub invariant-loop-byte : goal.invariant-loop-byte
invariant-loop-byte l = l.self ≡ bounded l.initial.self.capacity (l.initial.self.bits ++ bits_of (take l.byte-index l.bytes))
