use Rattle.std.proofs.Common.{◌≡◌, length, take}
use Rattle.pdh_packed.specs.Words.{bounded}
use Rattle.pdh_packed.proofs.packed.Packed.of_bits.Given as goal

-- the bits so far stand in the list
abbrev pub invariant-loop-bit : goal.invariant-loop-bit
invariant-loop-bit l = l.list ≡ bounded (length l.bits) (take l.bit-index l.bits)
