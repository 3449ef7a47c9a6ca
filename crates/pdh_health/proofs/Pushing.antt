-- What one event more makes of what events are to a node.
use Rattle.std.proofs.Common.{◌≡◌, ℕ, ◌+◌, ◌<◌, ◌≤◌, ◌^◌, Bool, true, false, cond, Some, None, List, [], ◌∷◌, ◌++◌, length, sym, ap, ◌∙◌, subst, arith}
use Rattle.std.specs.Prelude.{fold, filter, count_by, if◌then◌else◌}
use Rattle.std.specs.Option.{option_or}
use Rattle.std.proofs.lemmas.List.{append-nil, map_push, length-append}
use Rattle.std.proofs.lemmas.List.Sums.{fold_push, length-filter, count_by-le-length}
use Rattle.std.proofs.lemmas.List.Folds.{find-append}
use Rattle.std.proofs.lemmas.List.Elements.{filter-append}
use Rattle.pdh_timeline.specs.Marks.{Mark}
use Rattle.pdh_cells.specs.declared.cell.Code.{Code}
use Rattle.pdh_placed.specs.declared.placed.Placed.{Placed}
use Rattle.pdh_health.specs.declared.plan.NodePlan.{NodePlan}
use Rattle.pdh_health.specs.declared.sign.Sign.{Sign}
use Rattle.pdh_health.specs.declared.sign.Sign.TheVariants.{Begin, End, Block, Told, Coded, Other}
use Rattle.pdh_health.specs.declared.course.Course.{Course}
use Rattle.pdh_health.specs.Marking.{sign_of, last_of, is_last, marks_by, marks_with, first_marks, marks_of, codes_with, codes_of}
use Rattle.pdh_health.specs.Courses.{StandsFor}
use Rattle.pdh_health.specs.Nodes.{kinds_of, last_place, is_alignment, first_alignment}
use Rattle.pdh_health.specs.Lines.{is_path, own_events, RiseFrom, AreInOrder}
use Rattle.pdh_timeline.specs.Marks.{is_errored, is_far}

-- ---- the events of a node

pub kinds_push : (events : List Placed) (placed : Placed) → kinds_of (events ++ placed ∷ []) ≡ kinds_of events ++ placed.event.kind ∷ []
kinds_push events placed = map_push (λ (p : Placed). p.event.kind) events placed

pub alignment_push : (events : List Placed) (placed : Placed) → first_alignment (events ++ placed ∷ []) ≡ option_or (first_alignment events) (if is_alignment placed then Some placed else None)
alignment_push events placed = find-append is_alignment events (placed ∷ [])

pub codes_push : (events : List Placed) (placed : Placed) → codes_of (events ++ placed ∷ []) ≡ codes_with (codes_of events) placed
codes_push events placed = fold_push codes_with [] events placed

-- a course that went on by an event stands for all events
pub course_pushed : (course : Course) (rate block : ℕ) (late : Bool) (events : List Placed) (placed : Placed)
    → StandsFor course rate block (marks_with (marks_of late events) placed) (codes_with (codes_of events) placed) placed.place
    → StandsFor course rate block (marks_of late (events ++ placed ∷ [])) (codes_of (events ++ placed ∷ [])) (last_place (events ++ placed ∷ []))
course_pushed course rate block late events placed stands =
    let marks : marks_of late (events ++ placed ∷ []) ≡ marks_with (marks_of late events) placed = fold_push marks_with (first_marks late) events placed in
    let place : last_place (events ++ placed ∷ []) ≡ placed.place = fold_push (λ (place : ℕ) (p : Placed). p.place) 0 events placed in
    subst (λ (l : List Mark). StandsFor course rate block l (codes_of (events ++ placed ∷ [])) (last_place (events ++ placed ∷ []))) (sym marks)
    (subst (λ (l : List Code). StandsFor course rate block (marks_with (marks_of late events) placed) l (last_place (events ++ placed ∷ []))) (sym (codes_push events placed))
    (subst (λ n. StandsFor course rate block (marks_with (marks_of late events) placed) (codes_with (codes_of events) placed) n) (sym place) stands))

-- ---- the number of marks

by_count : (b : Bool) (mark : Mark) → length (if b then [] else mark ∷ []) ≤ 1
by_count true mark = omega arith
by_count false mark = omega arith

mark_count : (marks : List Mark) (sign : Sign) (place : ℕ) → length (marks_by marks sign place) ≤ 1
mark_count marks (Begin state) place = omega arith
mark_count marks (End state) place = omega arith
mark_count marks Block place = by_count (is_last (last_of is_errored marks) place) _
mark_count marks Told place = by_count (is_last (last_of is_far marks) place) _
mark_count marks Coded place = omega arith
mark_count marks Other place = omega arith

fold_count : (marks : List Mark) (events : List Placed) → length (fold marks_with marks events) ≤ length marks + length events
fold_count marks [] = omega arith
fold_count marks (placed ∷ events) =
    let all : length (marks_with marks placed) ≡ length marks + length (marks_by marks (sign_of placed) placed.place) = length-append marks (marks_by marks (sign_of placed) placed.place) in
    let rest : length (fold marks_with (marks_with marks placed) events) ≤ length (marks_with marks placed) + length events = fold_count (marks_with marks placed) events in
    let one : length (marks_by marks (sign_of placed) placed.place) ≤ 1 = mark_count marks (sign_of placed) placed.place in
    omega (arith, all, rest, one)

first_count : (late : Bool) → length (first_marks late) ≤ 1
first_count true = omega arith
first_count false = omega arith

pub marks_few : (late : Bool) (events : List Placed) → length events < 2 ^ 63 → length (marks_of late events) ≤ 2 ^ 63
marks_few late events few =
    let all : length (fold marks_with (first_marks late) events) ≤ length (first_marks late) + length events = fold_count (first_marks late) events in
    omega (arith, all, first_count late, few)

-- ---- all events

own_push : (plan : NodePlan) (events : List Placed) (placed : Placed) → own_events plan (events ++ placed ∷ []) ≡ own_events plan events ++ cond (is_path plan.path placed.event.path) (placed ∷ []) []
own_push plan events placed = filter-append (λ p. is_path plan.path p.event.path) events (placed ∷ [])

pub own_other : (plan : NodePlan) (events : List Placed) (placed : Placed) → is_path plan.path placed.event.path ≡ false → own_events plan (events ++ placed ∷ []) ≡ own_events plan events
own_other plan events placed other = own_push plan events placed ∙ ap (λ (b : Bool). own_events plan events ++ cond b (placed ∷ []) []) other ∙ append-nil (own_events plan events)

pub own_more : (plan : NodePlan) (events : List Placed) (placed : Placed) → is_path plan.path placed.event.path ≡ true → own_events plan (events ++ placed ∷ []) ≡ own_events plan events ++ placed ∷ []
own_more plan events placed own = own_push plan events placed ∙ ap (λ (b : Bool). own_events plan events ++ cond b (placed ∷ []) []) own

-- the place of the last of these events, or one
abbrev last_from : ℕ → List Placed → ℕ
last_from place events = fold (λ (place : ℕ) (p : Placed). p.place) place events

last_either : (own : Bool) (place most : ℕ) (first : Placed) (events : List Placed) → last_from first.place events ≤ most → last_from place events ≤ most
    → last_from place (cond own (first ∷ events) events) ≤ most
last_either true place most first events with_it without = with_it
last_either false place most first events with_it without = without

-- an event comes behind those of a node that came before it
behind_own : (test : Placed → Bool) (from place : ℕ) (events : List Placed) (placed : Placed) → place ≤ from → RiseFrom from (events ++ placed ∷ [])
    → last_from place (filter test events) ≤ placed.place
behind_own test from place [] placed le rise = omega (arith, le, rise.0)
behind_own test from place (first ∷ events) placed le rise =
    last_either (test first) place placed.place first (filter test events) (behind_own test first.place first.place events placed (omega arith) rise.1)
    (behind_own test first.place place events placed (omega (arith, le, rise.0)) rise.1)

pub own_before : (plan : NodePlan) (events : List Placed) (placed : Placed) → AreInOrder (events ++ placed ∷ []) → last_place (own_events plan events) ≤ placed.place
own_before plan events placed order = behind_own (λ p. is_path plan.path p.event.path) 0 0 events placed (omega arith) order.rise

-- the last event of a node isn't behind the last of all
last_own : (test : Placed → Bool) (from place : ℕ) (events : List Placed) → place ≤ from → RiseFrom from events → last_from place (filter test events) ≤ last_from from events
last_own test from place [] le rise = le
last_own test from place (first ∷ events) le rise =
    last_either (test first) place (last_from first.place events) first (filter test events) (last_own test first.place first.place events (omega arith) rise.1)
    (last_own test first.place place events (omega (arith, le, rise.0)) rise.1)

pub own_within : (plan : NodePlan) (events : List Placed) (bits : ℕ) → AreInOrder events → last_place events < bits → last_place (own_events plan events) < bits
own_within plan events bits order less =
    let most : last_place (own_events plan events) ≤ last_place events = last_own (λ p. is_path plan.path p.event.path) 0 0 events (omega arith) order.rise in omega (arith, most, less)

filter_count : (test : Placed → Bool) (events : List Placed) → length (filter test events) ≤ length events
filter_count test events =
    let count : length (filter test events) ≡ count_by test events = length-filter test events in
    let most : count_by test events ≤ length events = count_by-le-length test events in
    omega (arith, count, most)

pub own_few : (plan : NodePlan) (events : List Placed) → AreInOrder events → length (own_events plan events) < 2 ^ 63
own_few plan events order = let most : length (own_events plan events) ≤ length events = filter_count (λ p. is_path plan.path p.event.path) events in omega (arith, most, order.few)

pub own_fewer : (plan : NodePlan) (events : List Placed) (placed : Placed) → AreInOrder (events ++ placed ∷ []) → length (own_events plan events) < 2 ^ 63
own_fewer plan events placed order =
    let all : length (events ++ placed ∷ []) ≡ length events + 1 = length-append events (placed ∷ []) in
    let most : length (own_events plan events) ≤ length events = filter_count (λ p. is_path plan.path p.event.path) events in
    omega (arith, all, most, order.few)
