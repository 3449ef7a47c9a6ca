use Rattle.std.proofs.Common.{◌≡◌, ◌++◌, take}
use Rattle.pdh_clock.specs.Written.{number_words}
use Rattle.pdh_clock.proofs.writing.push_numbers.Given as goal

abbrev pub invariant-loop-number : goal.invariant-loop-number
invariant-loop-number l = l.text.items ≡ l.fn.text.items ++ number_words (take l.number-index l.numbers)
