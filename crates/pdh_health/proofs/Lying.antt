-- The times of a state lie one behind the other.
use Rattle.std.proofs.Common.{◌≡◌, ℕ, ◌+◌, ◌-◌, ◌≤◌, Bool, true, false, Option, Some, None, List, [], ◌∷◌, ◌++◌, sym, ap, ◌∙◌, subst, arith}
use Rattle.std.specs.Prelude.{sum_by, if◌then◌else◌}
use Rattle.std.proofs.lemmas.List.{append-nil}
use Rattle.std.proofs.lemmas.List.Sums.{sum_by_push}
use Rattle.pdh_spans.specs.Times.{Span, Turn, begun_with, begun_after, ended, time_up_to, times}
use Rattle.pdh_spans.specs.Times.Turn.{Begins, Ends}
use Rattle.pdh_spans.specs.Sums.{span_length}
use Rattle.pdh_spans.proofs.Turning.{ended_push, ended_begins, begun_push, begun_ends}
use Rattle.pdh_timeline.specs.declared.state.State.{State}
use Rattle.pdh_timeline.specs.Marks.{Mark, is_state, turn_of, turns_of}
use Rattle.pdh_timeline.specs.Marks.Mark.{Turns}
use Rattle.pdh_timeline.proofs.Adding.{turns_push}
use Rattle.pdh_health.specs.Courses.{begun_or, LieBefore}

abbrev length_of : List Span → ℕ
length_of spans = sum_by span_length spans

-- ---- before a later place

later_begun : (begun : Option ℕ) (place now sum : ℕ) → place ≤ now → sum ≤ begun_or place begun → sum ≤ begun_or now begun
later_begun None place now sum le is = omega (arith, le, is)
later_begun (Some from) place now sum le is = is

begun_later : (begun : Option ℕ) (place now : ℕ) → place ≤ now → begun_or place begun ≤ place → begun_or now begun ≤ now
begun_later None place now le is = omega arith
begun_later (Some from) place now le is = omega (arith, le, is)

pub lie_later : (place now : ℕ) (turns : List Turn) → place ≤ now → LieBefore place turns → LieBefore now turns
lie_later place now turns le lie = record {
  ended_are = later_begun (begun_after turns) place now (length_of (ended turns)) le lie.ended_are;
  begun_is = begun_later (begun_after turns) place now le lie.begun_is;
}

-- ---- with one turn more

begins_or : (begun : Option ℕ) (place now sum : ℕ) → place ≤ now → sum ≤ begun_or place begun → begun_or place begun ≤ place
    → (sum ≤ begun_or now (begun_with begun (Begins now))) × (begun_or now (begun_with begun (Begins now)) ≤ now)
begins_or None place now sum le is before = (omega (arith, le, is), omega arith)
begins_or (Some from) place now sum le is before = (is, omega (arith, le, before))

lie_begins : (place now : ℕ) (turns : List Turn) → place ≤ now → LieBefore place turns → LieBefore now (turns ++ Begins now ∷ [])
lie_begins place now turns le lie =
    let both = begins_or (begun_after turns) place now (length_of (ended turns)) le lie.ended_are lie.begun_is in
    let sum : length_of (ended (turns ++ Begins now ∷ [])) ≡ length_of (ended turns) = ap length_of (ended_begins turns now) in
    let begun : begun_or now (begun_after (turns ++ Begins now ∷ [])) ≡ begun_or now (begun_with (begun_after turns) (Begins now)) = ap (begun_or now) (begun_push turns (Begins now)) in
    record { ended_are = omega (arith, sum, begun, both.0); begun_is = omega (arith, begun, both.1) }

-- the times that have ended, with the one that goes on up to a place
closed : (spans : List Span) (begun : Option ℕ) (place now : ℕ) → place ≤ now → length_of spans ≤ begun_or place begun → begun_or place begun ≤ place → length_of (spans ++ time_up_to begun now) ≤ now
closed spans None place now le is before =
    let same : length_of (spans ++ []) ≡ length_of spans = ap length_of (append-nil spans) in omega (arith, same, le, is)
closed spans (Some from) place now le is before =
    let span : Span = record { from = from; to = now } in
    let all : length_of (spans ++ span ∷ []) ≡ length_of spans + (now - from) = sum_by_push span_length spans span in omega (arith, all, le, is, before)

pub times_are : (place now : ℕ) (turns : List Turn) → place ≤ now → LieBefore place turns → length_of (times turns now) ≤ now
times_are place now turns le lie = closed (ended turns) (begun_after turns) place now le lie.ended_are lie.begun_is

lie_ends : (place now : ℕ) (turns : List Turn) → place ≤ now → LieBefore place turns → LieBefore now (turns ++ Ends now ∷ [])
lie_ends place now turns le lie =
    let sum : length_of (ended (turns ++ Ends now ∷ [])) ≡ length_of (times turns now) = ap length_of (ended_push turns (Ends now)) in
    let most : length_of (times turns now) ≤ now = times_are place now turns le lie in
    let begun : begun_or now (begun_after (turns ++ Ends now ∷ [])) ≡ now = ap (begun_or now) (begun_ends turns now) in
    record { ended_are = omega (arith, sum, most, begun); begun_is = omega (arith, begun) }

-- ---- with one mark more

by_own : (place now : ℕ) (turns : List Turn) (turn : Turn) (own : Bool) → place ≤ now → LieBefore place turns → LieBefore now (turns ++ turn ∷ []) → LieBefore now (turns ++ (if own then turn ∷ [] else []))
by_own place now turns turn true le lie more = more
by_own place now turns turn false le lie more = subst (LieBefore now) (sym (append-nil turns)) (lie_later place now turns le lie)

pub marks_begin : (place now : ℕ) (marks : List Mark) (other : State) → place ≤ now → ((state : State) → LieBefore place (turns_of state marks))
    → (state : State) → LieBefore now (turns_of state (marks ++ Turns other (Begins now) ∷ []))
marks_begin place now marks other le lie state =
    subst (LieBefore now) (sym (turns_push state marks (Turns other (Begins now))))
    (by_own place now (turns_of state marks) (Begins now) (is_state state other) le (lie state) (lie_begins place now (turns_of state marks) le (lie state)))

pub marks_end : (place now : ℕ) (marks : List Mark) (other : State) → place ≤ now → ((state : State) → LieBefore place (turns_of state marks))
    → (state : State) → LieBefore now (turns_of state (marks ++ Turns other (Ends now) ∷ []))
marks_end place now marks other le lie state =
    subst (LieBefore now) (sym (turns_push state marks (Turns other (Ends now))))
    (by_own place now (turns_of state marks) (Ends now) (is_state state other) le (lie state) (lie_ends place now (turns_of state marks) le (lie state)))

-- a mark that is no turn
pub marks_other : (place now : ℕ) (marks : List Mark) (mark : Mark) → place ≤ now → ((state : State) → turn_of state mark ≡ []) → ((state : State) → LieBefore place (turns_of state marks))
    → (state : State) → LieBefore now (turns_of state (marks ++ mark ∷ []))
marks_other place now marks mark le none lie state =
    subst (LieBefore now) (sym (turns_push state marks mark ∙ ap (λ (l : List Turn). turns_of state marks ++ l) (none state) ∙ append-nil (turns_of state marks)))
    (lie_later place now (turns_of state marks) le (lie state))
