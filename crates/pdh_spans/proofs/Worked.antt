-- Worked by the checker: the times of a state.
use Rattle.std.proofs.Common.{◌≡◌, [], ◌∷◌, refl}
use Rattle.pdh_spans.specs.Times.{times}
use Rattle.pdh_spans.specs.Times.Turn.{Begins, Ends}
use Rattle.pdh_spans.specs.Sums.{sum_of}

-- from 10 to 30, and from 50 to the end at 55
two_times : sum_of (times (Begins 10 ∷ Ends 30 ∷ Begins 50 ∷ []) 55) ≡ record { count = 2; bits = 25; longest = 20 }
two_times = refl

-- it goes on where it begins again, and an end of nothing is nothing
goes_on : sum_of (times (Ends 5 ∷ Begins 10 ∷ Begins 20 ∷ Ends 30 ∷ Ends 40 ∷ []) 55) ≡ record { count = 1; bits = 20; longest = 20 }
goes_on = refl
