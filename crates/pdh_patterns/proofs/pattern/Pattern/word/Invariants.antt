use Rattle.std.proofs.Common.{◌≡◌, length}
use Rattle.pdh_patterns.specs.Pattern.{state_after, bits_from}
use Rattle.pdh_patterns.proofs.pattern.Pattern.word.Given as goal

-- the next bits so far
abbrev pub invariant-loop-bit : goal.invariant-loop-bit
invariant-loop-bit l = record {
  count : length l.word ≡ l._bit;
  next : l.word ≡ bits_from l.fn.self l._bit;
  state : l.self ≡ state_after l.fn.self l._bit;
}
