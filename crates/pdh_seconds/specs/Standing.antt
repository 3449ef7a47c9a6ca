-- What is kept of the seconds that came.
use Rattle.std.specs.Prelude.{◌≡◌, ◌<◌, Bool, false, not, List, [], ◌∷◌, ◌++◌, length, map}
use Rattle.pdh_seconds.specs.declared.second.Second.{Second}
use Rattle.pdh_seconds.specs.declared.seconds.Seconds.{Seconds}
use Rattle.pdh_seconds.specs.Availability.{Told, told_as, told_after, told}
use Rattle.pdh_seconds.specs.Counting.{tally_of}

-- all of these seconds are severely errored, or none is
abbrev pub AreAlike : Bool → List Second → Type 0
AreAlike severe [] = Unit {0}
AreAlike severe (second ∷ later) = (second.severe ≡ severe) × AreAlike severe later

-- what is kept stands for the seconds that came
pub record StandsFor (kept : Seconds) (seconds : List Second) : Type 0 where
  -- of these it is settled whether they are available, whatever comes,
  pub settled : List Told
  -- and of these it isn't: they are fewer than ten in a row, of the kind that would end the time before them
  pub waiting : List Second
  pub splits : (later : List Second) → told (seconds ++ later) ≡ settled ++ told_after kept.unavailable (waiting ++ later)
  pub few : length waiting < 10
  pub alike : AreAlike (not kept.unavailable) waiting
  -- the counts are theirs
  pub settled_are : kept.settled ≡ tally_of settled
  pub waiting_are : kept.waiting ≡ tally_of (map (told_as false) waiting)
