use Rattle.std.proofs.Common.{◌≡◌, length}
use Rattle.pdh_tests_of_receivers.proofs.rx.packed.Given as goal

-- the bits so far are packed, and there is room for them all
abbrev pub invariant-loop-bit : goal.invariant-loop-bit
invariant-loop-bit l = record { count : length l.packed.bits ≡ l.bit-index; room : l.packed.capacity ≡ length l.bits }
