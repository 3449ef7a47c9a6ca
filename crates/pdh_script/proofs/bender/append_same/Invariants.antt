use Rattle.std.proofs.Common.{◌≡◌, ◌++◌, replicate}
use Rattle.pdh_packed.specs.Words.{bounded}
use Rattle.pdh_script.proofs.bender.append_same.Given as goal

-- the bit was appended so many times
abbrev pub invariant-loop-bit : goal.invariant-loop-bit
invariant-loop-bit l = l.into ≡ bounded l.fn.into.capacity (l.fn.into.bits ++ replicate l._bit l.bit)
