use Rattle.std.proofs.Common.{◌≡◌, take}
use Rattle.pdh_packed.proofs.word.Word.of_bits.Given as goal

abbrev pub invariant-loop-bit : goal.invariant-loop-bit
invariant-loop-bit l = l.word ≡ take l.bit-index l.bits
