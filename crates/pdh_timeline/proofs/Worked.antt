-- Worked by the checker: what seconds of 100 bits show, with blocks of 10 bits.
use Rattle.std.proofs.Common.{◌≡◌, true, false, [], ◌∷◌, refl}
use Rattle.pdh_spans.specs.Times.Turn.{Begins, Ends}
use Rattle.pdh_seconds.specs.declared.second.Second.{Second}
use Rattle.pdh_timeline.specs.declared.state.State.TheVariants.{Out}
use Rattle.pdh_timeline.specs.Marks.{seconds_of}
use Rattle.pdh_timeline.specs.Marks.Mark.{Turns, Errored}

abbrev fine : Second
fine = record { errored = false; severe = false; far = false }

abbrev errored : Second
errored = record { errored = true; severe = false; far = false }

abbrev severe : Second
severe = record { errored = true; severe = true; far = false }

-- out of alignment from bit 150 up to the last bit of second 2
out : seconds_of 10 100 350 (Turns Out (Begins 150) ∷ Turns Out (Ends 300) ∷ []) ≡ fine ∷ severe ∷ severe ∷ fine ∷ []
out = refl

-- two of ten blocks are errored, and three
blocks : seconds_of 10 100 200 (Errored 10 ∷ Errored 20 ∷ Errored 110 ∷ Errored 120 ∷ Errored 130 ∷ []) ≡ errored ∷ severe ∷ []
blocks = refl

-- two of the five blocks of a last second of 50 bits
short : seconds_of 10 100 150 (Errored 110 ∷ Errored 120 ∷ []) ≡ fine ∷ severe ∷ []
short = refl
