use Rattle.std.proofs.Common.{◌≡◌, take}
use Rattle.pdh_packed.proofs.packed.Packed.to_bits.Given as goal

-- the bits so far
abbrev pub invariant-loop-place : goal.invariant-loop-place
invariant-loop-place l = l.bits.items ≡ take l.place l.self.bits
