-- What one mark more makes of what cells show and of what errors are counted.
use Rattle.std.proofs.Common.{◌≡◌, ℕ, ◌+◌, Bool, true, false, cond, Option, Some, None, List, [], ◌∷◌, ◌++◌, map, refl, sym, ap, ◌∙◌, arith}
use Rattle.std.specs.Prelude.{min, filter, count_by, if◌then◌else◌, ◌^◌, ◌-◌}
use Rattle.std.proofs.lemmas.List.{append-nil, map-append}
use Rattle.std.proofs.lemmas.List.Elements.{filter-append}
use Rattle.std.proofs.lemmas.List.Sums.{sum_by_push, fold_push}
use Rattle.pdh_spans.specs.Times.{Span, Turn, begun_after, ended, ended_by, time_up_to}
use Rattle.pdh_spans.specs.Times.Turn.{Begins, Ends}
use Rattle.pdh_spans.proofs.Turning.{ended_push}
use Rattle.pdh_timeline.specs.declared.state.State.{State}
use Rattle.pdh_timeline.specs.declared.state.State.TheVariants.{Out, Ais, Alarm}
use Rattle.pdh_timeline.specs.Marks.{Mark, place_of, is_state, turns_of, is_errored, is_far}
use Rattle.pdh_timeline.specs.Marks.Mark.{Turns, Errored, Far}
use Rattle.pdh_timeline.proofs.Adding.{turns_push}
use Rattle.pdh_cells.specs.declared.cell.Code.{Code}
use Rattle.pdh_cells.specs.Lanes.{with_time, with_block, with_far}
use Rattle.pdh_health.specs.Marking.{last_of}
use Rattle.pdh_health.specs.Courses.{places_of, lanes_so_far, errors_of, with_open}

-- ---- the times of a state

ended_turn : (turns : List Turn) (turn : Turn) (own : Bool) → ended (turns ++ (if own then turn ∷ [] else [])) ≡ ended turns ++ (if own then ended_by (begun_after turns) turn else [])
ended_turn turns turn true = ended_push turns turn
ended_turn turns turn false = ap ended (append-nil turns) ∙ sym (append-nil (ended turns))

ended_mark : (state other : State) (turn : Turn) (marks : List Mark) → ended (turns_of state (marks ++ Turns other turn ∷ []))
    ≡ ended (turns_of state marks) ++ (if is_state state other then ended_by (begun_after (turns_of state marks)) turn else [])
ended_mark state other turn marks = ap ended (turns_push state marks (Turns other turn)) ∙ ended_turn (turns_of state marks) turn (is_state state other)

-- a mark that is no turn
ended_other : (state : State) (marks : List Mark) (mark : Mark) → turns_of state (marks ++ mark ∷ []) ≡ turns_of state marks ++ [] → ended (turns_of state (marks ++ mark ∷ [])) ≡ ended (turns_of state marks)
ended_other state marks mark push = ap ended (push ∙ append-nil (turns_of state marks))

-- ---- the places of errors

places_push : (test : Mark → Bool) (marks : List Mark) (mark : Mark) → places_of test (marks ++ mark ∷ []) ≡ places_of test marks ++ map place_of (cond (test mark) (mark ∷ []) [])
places_push test marks mark = ap (map place_of) (filter-append test marks (mark ∷ [])) ∙ map-append place_of (filter test marks) (cond (test mark) (mark ∷ []) [])

places_same : (test : Mark → Bool) (marks : List Mark) (mark : Mark) → test mark ≡ false → places_of test (marks ++ mark ∷ []) ≡ places_of test marks
places_same test marks mark other =
    places_push test marks mark ∙ ap (λ b. places_of test marks ++ map place_of (cond b (mark ∷ []) [])) other ∙ append-nil (places_of test marks)

-- ---- what cells show

-- a state begins
begins_nothing : (own : Bool) (begun : Option ℕ) (spans : List Span) (place : ℕ) → spans ++ (if own then ended_by begun (Begins place) else []) ≡ spans
begins_nothing true begun spans place = append-nil spans
begins_nothing false begun spans place = append-nil spans

begins_same : (other state : State) (place : ℕ) (marks : List Mark) → ended (turns_of other (marks ++ Turns state (Begins place) ∷ [])) ≡ ended (turns_of other marks)
begins_same other state place marks =
    ended_mark other state (Begins place) marks ∙ begins_nothing (is_state other state) (begun_after (turns_of other marks)) (ended (turns_of other marks)) place

pub begins_shown : (state : State) (place : ℕ) (marks : List Mark) (codes : List Code) → lanes_so_far (marks ++ Turns state (Begins place) ∷ []) codes ≡ lanes_so_far marks codes
begins_shown state place marks codes = λ i. record {
  out = begins_same Out state place marks i;
  ais = begins_same Ais state place marks i;
  alarm = begins_same Alarm state place marks i;
  near = places_same is_errored marks (Turns state (Begins place)) refl i;
  far = places_same is_far marks (Turns state (Begins place)) refl i;
  codes = codes;
}

-- a state ends that stands
ends_shown : (state : State) (from place : ℕ) (marks : List Mark) (codes : List Code) → begun_after (turns_of state marks) ≡ Some from
    → lanes_so_far (marks ++ Turns state (Ends place) ∷ []) codes ≡ with_time state (record { from = from; to = place }) (lanes_so_far marks codes)
ends_shown Out from place marks codes begun = λ i. record {
  out = (ended_mark Out Out (Ends place) marks ∙ ap (λ b. ended (turns_of Out marks) ++ time_up_to b place) begun) i;
  ais = (ended_mark Ais Out (Ends place) marks ∙ append-nil (ended (turns_of Ais marks))) i;
  alarm = (ended_mark Alarm Out (Ends place) marks ∙ append-nil (ended (turns_of Alarm marks))) i;
  near = places_same is_errored marks (Turns Out (Ends place)) refl i;
  far = places_same is_far marks (Turns Out (Ends place)) refl i;
  codes = codes;
}
ends_shown Ais from place marks codes begun = λ i. record {
  out = (ended_mark Out Ais (Ends place) marks ∙ append-nil (ended (turns_of Out marks))) i;
  ais = (ended_mark Ais Ais (Ends place) marks ∙ ap (λ b. ended (turns_of Ais marks) ++ time_up_to b place) begun) i;
  alarm = (ended_mark Alarm Ais (Ends place) marks ∙ append-nil (ended (turns_of Alarm marks))) i;
  near = places_same is_errored marks (Turns Ais (Ends place)) refl i;
  far = places_same is_far marks (Turns Ais (Ends place)) refl i;
  codes = codes;
}
ends_shown Alarm from place marks codes begun = λ i. record {
  out = (ended_mark Out Alarm (Ends place) marks ∙ append-nil (ended (turns_of Out marks))) i;
  ais = (ended_mark Ais Alarm (Ends place) marks ∙ append-nil (ended (turns_of Ais marks))) i;
  alarm = (ended_mark Alarm Alarm (Ends place) marks ∙ ap (λ b. ended (turns_of Alarm marks) ++ time_up_to b place) begun) i;
  near = places_same is_errored marks (Turns Alarm (Ends place)) refl i;
  far = places_same is_far marks (Turns Alarm (Ends place)) refl i;
  codes = codes;
}

-- and one that doesn't
ends_nothing : (begun : Option ℕ) (spans : List Span) (place : ℕ) → begun ≡ None → spans ++ time_up_to begun place ≡ spans
ends_nothing begun spans place is = ap (λ b. spans ++ time_up_to b place) is ∙ append-nil spans

ends_of : (other state : State) (place : ℕ) (marks : List Mark) → begun_after (turns_of state marks) ≡ None
    → ended (turns_of other marks) ++ (if is_state other state then ended_by (begun_after (turns_of other marks)) (Ends place) else []) ≡ ended (turns_of other marks)
ends_of Out Out place marks none = ends_nothing (begun_after (turns_of Out marks)) (ended (turns_of Out marks)) place none
ends_of Ais Ais place marks none = ends_nothing (begun_after (turns_of Ais marks)) (ended (turns_of Ais marks)) place none
ends_of Alarm Alarm place marks none = ends_nothing (begun_after (turns_of Alarm marks)) (ended (turns_of Alarm marks)) place none
ends_of Out Ais place marks none = append-nil (ended (turns_of Out marks))
ends_of Out Alarm place marks none = append-nil (ended (turns_of Out marks))
ends_of Ais Out place marks none = append-nil (ended (turns_of Ais marks))
ends_of Ais Alarm place marks none = append-nil (ended (turns_of Ais marks))
ends_of Alarm Out place marks none = append-nil (ended (turns_of Alarm marks))
ends_of Alarm Ais place marks none = append-nil (ended (turns_of Alarm marks))

ends_not_shown : (state : State) (place : ℕ) (marks : List Mark) (codes : List Code) → begun_after (turns_of state marks) ≡ None
    → lanes_so_far (marks ++ Turns state (Ends place) ∷ []) codes ≡ lanes_so_far marks codes
ends_not_shown state place marks codes none = λ i. record {
  out = (ended_mark Out state (Ends place) marks ∙ ends_of Out state place marks none) i;
  ais = (ended_mark Ais state (Ends place) marks ∙ ends_of Ais state place marks none) i;
  alarm = (ended_mark Alarm state (Ends place) marks ∙ ends_of Alarm state place marks none) i;
  near = places_same is_errored marks (Turns state (Ends place)) refl i;
  far = places_same is_far marks (Turns state (Ends place)) refl i;
  codes = codes;
}

-- a state ends, whether it stands or not
pub ends_are_shown : (state : State) (place : ℕ) (marks : List Mark) (codes : List Code) (begun : Option ℕ) → begun_after (turns_of state marks) ≡ begun
    → lanes_so_far (marks ++ Turns state (Ends place) ∷ []) codes ≡ with_open state (begun_after (turns_of state marks)) place (lanes_so_far marks codes)
ends_are_shown state place marks codes None is = ends_not_shown state place marks codes is ∙ ap (λ b. with_open state b place (lanes_so_far marks codes)) (sym is)
ends_are_shown state place marks codes (Some from) is = ends_shown state from place marks codes is ∙ ap (λ b. with_open state b place (lanes_so_far marks codes)) (sym is)

-- an errored block
pub block_shown : (place : ℕ) (marks : List Mark) (codes : List Code) → lanes_so_far (marks ++ Errored place ∷ []) codes ≡ with_block place (lanes_so_far marks codes)
block_shown place marks codes = λ i. record {
  out = ended_other Out marks (Errored place) (turns_push Out marks (Errored place)) i;
  ais = ended_other Ais marks (Errored place) (turns_push Ais marks (Errored place)) i;
  alarm = ended_other Alarm marks (Errored place) (turns_push Alarm marks (Errored place)) i;
  near = places_push is_errored marks (Errored place) i;
  far = places_same is_far marks (Errored place) refl i;
  codes = codes;
}

-- an error that the far end tells
pub far_shown : (place : ℕ) (marks : List Mark) (codes : List Code) → lanes_so_far (marks ++ Far place ∷ []) codes ≡ with_far place (lanes_so_far marks codes)
far_shown place marks codes = λ i. record {
  out = ended_other Out marks (Far place) (turns_push Out marks (Far place)) i;
  ais = ended_other Ais marks (Far place) (turns_push Ais marks (Far place)) i;
  alarm = ended_other Alarm marks (Far place) (turns_push Alarm marks (Far place)) i;
  near = places_same is_errored marks (Far place) refl i;
  far = places_push is_far marks (Far place) i;
  codes = codes;
}

-- ---- the errors that are counted

-- 1 for true
abbrev one_if : Bool → ℕ
one_if b = cond b 1 0

count_push : (test : Mark → Bool) (marks : List Mark) (mark : Mark) → count_by test (marks ++ mark ∷ []) ≡ count_by test marks + one_if (test mark)
count_push test marks mark = sum_by_push (λ m. one_if (test m)) marks mark

pub errors_more : (test : Mark → Bool) (marks : List Mark) (mark : Mark) → test mark ≡ true
    → errors_of test (marks ++ mark ∷ []) ≡ record { count = min (min (count_by test marks) (2 ^ 64 - 1) + 1) (2 ^ 64 - 1); last = Some (place_of mark) }
errors_more test marks mark own =
    let all : count_by test (marks ++ mark ∷ []) ≡ count_by test marks + one_if (test mark) = count_push test marks mark in
    let one : ◌≡◌ {A = ℕ} (one_if (test mark)) 1 = ap one_if own in
    let count : min (count_by test (marks ++ mark ∷ [])) (2 ^ 64 - 1) ≡ min (min (count_by test marks) (2 ^ 64 - 1) + 1) (2 ^ 64 - 1) = omega (arith, all, one) in
    let last : last_of test (marks ++ mark ∷ []) ≡ Some (place_of mark) =
    fold_push (λ (last : Option ℕ) (m : Mark). if test m then Some (place_of m) else last) None marks mark ∙ ap (λ (b : Bool). if b then Some (place_of mark) else last_of test marks) own in
    λ i. record { count = count i; last = last i }

pub errors_same : (test : Mark → Bool) (marks : List Mark) (mark : Mark) → test mark ≡ false → errors_of test (marks ++ mark ∷ []) ≡ errors_of test marks
errors_same test marks mark other =
    let all : count_by test (marks ++ mark ∷ []) ≡ count_by test marks + one_if (test mark) = count_push test marks mark in
    let none : ◌≡◌ {A = ℕ} (one_if (test mark)) 0 = ap one_if other in
    let count : min (count_by test (marks ++ mark ∷ [])) (2 ^ 64 - 1) ≡ min (count_by test marks) (2 ^ 64 - 1) = omega (arith, all, none) in
    let last : last_of test (marks ++ mark ∷ []) ≡ last_of test marks =
    fold_push (λ (last : Option ℕ) (m : Mark). if test m then Some (place_of m) else last) None marks mark ∙ ap (λ (b : Bool). if b then Some (place_of mark) else last_of test marks) other in
    λ i. record { count = count i; last = last i }
