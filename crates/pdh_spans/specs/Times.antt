-- The times in which a state stands, by the places at which it begins and ends.
use Rattle.std.specs.Prelude.{ℕ, Bool, is_some, Option, Some, None, List, [], ◌∷◌, ◌++◌, fold}

-- from a place up to another, without the latter
pub record Span : Type 0 where
  pub from : ℕ
  pub to : ℕ

-- the state begins or ends at a place
pub data Turn : Type 0 where
  Begins : ℕ → Turn
  Ends : ℕ → Turn

-- where the time began that goes on behind a turn, by that of the time before the turn
abbrev pub begun_with : Option ℕ → Turn → Option ℕ
begun_with None (Begins place) = Some place
begun_with (Some from) (Begins place) = Some from
begun_with begun (Ends place) = None

-- the time from there, if there is one, up to a place
abbrev pub time_up_to : Option ℕ → ℕ → List Span
time_up_to None place = []
time_up_to (Some from) place = record { from = from; to = place } ∷ []

-- the time that a turn ends
abbrev pub ended_by : Option ℕ → Turn → List Span
ended_by begun (Begins place) = []
ended_by begun (Ends place) = time_up_to begun place

-- the times that these turns end
abbrev pub ended_after : Option ℕ → List Turn → List Span
ended_after begun [] = []
ended_after begun (turn ∷ turns) = ended_by begun turn ++ ended_after (begun_with begun turn) turns

abbrev pub ended : List Turn → List Span
ended turns = ended_after None turns

-- where the time began that goes on behind these turns
abbrev pub begun_after : List Turn → Option ℕ
begun_after turns = fold begun_with None turns

-- the state stands behind these turns
abbrev pub stands_after : List Turn → Bool
stands_after turns = is_some (begun_after turns)

-- all times, where the line ends before the bit at this place
abbrev pub times : List Turn → ℕ → List Span
times turns end = ended turns ++ time_up_to (begun_after turns) end
