-- Worked by the checker: how seconds are counted.
use Rattle.std.proofs.Common.{◌≡◌, ℕ, true, false, List, ◌++◌, replicate, refl}
use Rattle.pdh_seconds.specs.declared.second.Second.{Second}
use Rattle.pdh_seconds.specs.declared.tally.Tally.{Tally}
use Rattle.pdh_seconds.specs.Availability.{told}
use Rattle.pdh_seconds.specs.Counting.{tally_of}

-- severely errored ones, and right ones
abbrev bad : ℕ → List Second
bad n = replicate n (record { errored = true; severe = true; far = false })

abbrev good : ℕ → List Second
good n = replicate n (record { errored = false; severe = false; far = false })

abbrev tally : ℕ → ℕ → ℕ → ℕ → Tally
tally seconds errored severe unavailable = record { seconds = seconds; errored = errored; severe = severe; unavailable = unavailable; far = 0 }

nine : tally_of (told (bad 9)) ≡ tally 9 9 9 0
nine = refl

ten_of_forty : tally_of (told (good 15 ++ (bad 10 ++ good 15))) ≡ tally 40 0 0 10
ten_of_forty = refl

a_right_one_among_them : tally_of (told (bad 10 ++ (good 1 ++ bad 2))) ≡ tally 13 0 0 13
a_right_one_among_them = refl

the_last_ten : tally_of (told (good 30 ++ bad 10)) ≡ tally 40 0 0 10
the_last_ten = refl

ten_first_of_fifteen : tally_of (told (bad 10 ++ good 5)) ≡ tally 15 0 0 15
ten_first_of_fifteen = refl

ten_first_of_twenty : tally_of (told (bad 10 ++ good 10)) ≡ tally 20 0 0 10
ten_first_of_twenty = refl

-- nine don't begin unavailable time, and nine others don't end it
nine_in_available_time : tally_of (told (good 5 ++ (bad 9 ++ good 5))) ≡ tally 19 9 9 0
nine_in_available_time = refl

nine_in_unavailable_time : tally_of (told (bad 10 ++ (good 9 ++ bad 3))) ≡ tally 22 0 0 22
nine_in_unavailable_time = refl
