use Rattle.std.proofs.Common.{◌≡◌, drop}
use Rattle.pdh_delivered.specs.Alike.{same_bits}
use Rattle.pdh_delivered.proofs.alike.are_same.Given as goal

-- they are the same where what is left of them is
abbrev pub invariant-loop-place : goal.invariant-loop-place
invariant-loop-place l = same_bits l.one.bits l.other.bits ≡ same_bits (drop l.place l.one.bits) (drop l.place l.other.bits)
