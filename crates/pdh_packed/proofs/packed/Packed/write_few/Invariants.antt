use Rattle.std.proofs.Common.{◌≡◌, ◌++◌, take, drop}
use Rattle.pdh_bits.specs.Bits.{bytes_of}
use Rattle.pdh_packed.proofs.packed.Packed.write_few.Given as goal

abbrev pub invariant-loop-index : goal.invariant-loop-index
invariant-loop-index l = l.into ≡ take l.index (bytes_of (drop l.place l.self.bits)) ++ drop l.index l.initial.into
