use Rattle.std.proofs.Common.{◌≤◌, ◌+◌, ◌*◌}
use Rattle.std.specs.Option.{option_copied}
use Rattle.pdh_row_text.specs.RateWords.{rate_of}
use Rattle.pdh_row_text.specs.Parsed.{left_len, words_left}
use Rattle.pdh_row_text.proofs.Counting.{SeenBefore}
use Rattle.pdh_row_text.proofs.row.rates_in.Given as goal

abbrev pub invariant-loop-rest : goal.invariant-loop-rest
invariant-loop-rest l = SeenBefore rate_of l.found (words_left (option_copied l.rest)) (words_left (option_copied l.fn.words))
    × (2 * l.found.number + left_len (option_copied l.rest) ≤ left_len (option_copied l.fn.words))

abbrev pub decreases-loop-rest : goal.decreases-loop-rest
decreases-loop-rest l = left_len (option_copied l.rest)
