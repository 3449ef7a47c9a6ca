-- The times of a line's states fit their sums.
use Rattle.std.proofs.Common.{◌≡◌, ℕ, ◌+◌, ◌^◌, ◌<◌, ◌≤◌, Bool, true, false, Option, Some, None, List, [], ◌∷◌, ◌++◌, length, arith}
use Rattle.std.specs.Prelude.{if◌then◌else◌}
use Rattle.std.proofs.lemmas.List.{length-append}
use Rattle.pdh_spans.specs.Times.{Turn, begun_with, begun_after, ended, ended_after, time_up_to, times}
use Rattle.pdh_spans.specs.Times.Turn.{Begins, Ends}
use Rattle.pdh_spans.specs.Sums.{Fits}
use Rattle.pdh_timeline.specs.declared.state.State.{State}
use Rattle.pdh_timeline.specs.Marks.{Mark, is_state, turn_of, turns_of}
use Rattle.pdh_timeline.specs.Marks.Mark.{Turns, Errored, Far}
use Rattle.pdh_track.specs.Fitting.{AllFit}
use Rattle.pdh_health.specs.Courses.{LieBefore}
use Rattle.pdh_health.proofs.Lying.{times_are}

time_count : (begun : Option ℕ) (place : ℕ) → length (time_up_to begun place) ≤ 1
time_count None place = omega arith
time_count (Some from) place = omega arith

-- no more times end than there are turns
ended_count : (begun : Option ℕ) (turns : List Turn) → length (ended_after begun turns) ≤ length turns
ended_count begun [] = omega arith
ended_count begun (Begins place ∷ turns) = let rest : length (ended_after (begun_with begun (Begins place)) turns) ≤ length turns = ended_count (begun_with begun (Begins place)) turns in omega (arith, rest)
ended_count begun (Ends place ∷ turns) =
    let rest : length (ended_after (begun_with begun (Ends place)) turns) ≤ length turns = ended_count (begun_with begun (Ends place)) turns in
    let all : length (time_up_to begun place ++ ended_after (begun_with begun (Ends place)) turns) ≡ length (time_up_to begun place) + length (ended_after (begun_with begun (Ends place)) turns) =
    length-append (time_up_to begun place) (ended_after (begun_with begun (Ends place)) turns) in
    omega (arith, rest, all, time_count begun place)

-- nor more turns than marks
turn_count : (state : State) (mark : Mark) → length (turn_of state mark) ≤ 1
turn_count state (Turns other turn) = by_own (is_state state other)
  where
    by_own : (own : Bool) → length (if own then turn ∷ [] else []) ≤ 1
    by_own true = omega arith
    by_own false = omega arith
turn_count state (Errored place) = omega arith
turn_count state (Far place) = omega arith

turns_count : (state : State) (marks : List Mark) → length (turns_of state marks) ≤ length marks
turns_count state [] = omega arith
turns_count state (mark ∷ marks) =
    let all : length (turn_of state mark ++ turns_of state marks) ≡ length (turn_of state mark) + length (turns_of state marks) = length-append (turn_of state mark) (turns_of state marks) in
    omega (arith, all, turn_count state mark, turns_count state marks)

-- all times of a state
pub times_fit : (state : State) (marks : List Mark) (place now : ℕ) → place ≤ now → now < 2 ^ 64 → length marks ≤ 2 ^ 63 → LieBefore place (turns_of state marks) → Fits (times (turns_of state marks) now)
times_fit state marks place now le fits few lie =
    let turns : List Turn = turns_of state marks in
    let all : length (ended turns ++ time_up_to (begun_after turns) now) ≡ length (ended turns) + length (time_up_to (begun_after turns) now) = length-append (ended turns) (time_up_to (begun_after turns) now) in
    record {
      count = omega (arith, all, ended_count None turns, time_count (begun_after turns) now, turns_count state marks, few);
      bits = let most = times_are place now turns le lie in omega (arith, most, fits);
    }

-- those that have ended
pub ended_fit : (marks : List Mark) (place : ℕ) → place < 2 ^ 64 → length marks ≤ 2 ^ 63 + 1 → ((state : State) → LieBefore place (turns_of state marks)) → AllFit marks
ended_fit marks place fits few lie = λ state. record {
  count = omega (arith, ended_count None (turns_of state marks), turns_count state marks, few);
  bits = let own : LieBefore place (turns_of state marks) = lie state in omega (arith, own.ended_are, own.begun_is, fits);
}
