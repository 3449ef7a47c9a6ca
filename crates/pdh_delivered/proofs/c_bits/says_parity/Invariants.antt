use Rattle.std.proofs.Common.{◌≡◌, ◌≤◌, false, take}
use Rattle.std.specs.Prelude.{count_by, get_or, not}
use Rattle.pdh_delivered.specs.CBits.{fixed_c_bits}
use Rattle.pdh_delivered.proofs.c_bits.says_parity.Given as goal

-- the zeros so far
abbrev pub invariant-loop-slot : goal.invariant-loop-slot
invariant-loop-slot l = record {
  zeros : l.zeros ≡ count_by (λ slot. not (get_or l.frame.bits slot false)) (take l.slot-index fixed_c_bits);
  few : l.zeros ≤ l.slot-index;
}
