-- How many seconds there are of each kind. Errored and severely errored ones are counted outside unavailable time
-- (ITU-T G.826, Annex A).
use Rattle.std.specs.Prelude.{◌+◌, ◌<◌, ◌^◌, Bool, not, ◌&&◌, if◌then◌else◌, List, length, count_by}
use Rattle.pdh_seconds.specs.declared.tally.Tally.{Tally}
use Rattle.pdh_seconds.specs.Availability.{Told}

-- an available second was errored, or severely errored, or the far end told an error in it
abbrev pub is_errored : Told → Bool
is_errored told = not told.unavailable && told.second.errored

abbrev pub is_severe : Told → Bool
is_severe told = not told.unavailable && told.second.severe

abbrev pub is_far : Told → Bool
is_far told = not told.unavailable && told.second.far

-- how many of these seconds there are of each kind
abbrev pub tally_of : List Told → Tally
tally_of all = record {
  seconds = length all;
  errored = count_by is_errored all;
  severe = count_by is_severe all;
  unavailable = count_by (λ told. told.unavailable) all;
  far = count_by is_far all;
}

-- ---- sums

abbrev pub no_seconds : Tally
no_seconds = record { seconds = 0; errored = 0; severe = 0; unavailable = 0; far = 0 }

-- the seconds of two times
abbrev pub sum_of : Tally → Tally → Tally
sum_of a b = record {
  seconds = a.seconds + b.seconds;
  errored = a.errored + b.errored;
  severe = a.severe + b.severe;
  unavailable = a.unavailable + b.unavailable;
  far = a.far + b.far;
}

-- each sum fits a count
pub record Fit (a b : Tally) : Type 0 where
  pub seconds : a.seconds + b.seconds < 2 ^ 64
  pub errored : a.errored + b.errored < 2 ^ 64
  pub severe : a.severe + b.severe < 2 ^ 64
  pub unavailable : a.unavailable + b.unavailable < 2 ^ 64
  pub far : a.far + b.far < 2 ^ 64

-- available seconds that are counted as unavailable ones, or as they are
abbrev pub tally_as : Bool → Tally → Tally
tally_as unavailable tally =
    (if unavailable then record { seconds = tally.seconds; errored = 0; severe = 0; unavailable = tally.seconds; far = 0 } else tally)
