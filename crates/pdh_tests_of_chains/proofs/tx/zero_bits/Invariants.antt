use Rattle.std.proofs.Common.{◌≡◌, length}
use Rattle.pdh_tests_of_chains.proofs.tx.zero_bits.Given as goal

-- there is room for the others
abbrev pub invariant-loop-bit : goal.invariant-loop-bit
invariant-loop-bit l = record {
  room : l.bits.capacity ≡ l.count;
  count : length l.bits.bits ≡ l._bit;
}
