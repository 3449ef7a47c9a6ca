use Rattle.std.proofs.Common.{◌≡◌, ◌++◌, take, drop}
use Rattle.pdh_bits.specs.Bits.{bytes_of}
use Rattle.pdh_bits.proofs.bits.write_bytes.Given as goal

abbrev pub invariant-loop-place : goal.invariant-loop-place
invariant-loop-place l = l.into ≡ take l.place (bytes_of l.bits) ++ drop l.place l.initial.into
