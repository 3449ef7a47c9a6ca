-- What one mark more makes of what is kept.
use Rattle.std.proofs.Common.{◌≡◌, ℕ, zero, suc, ◌+◌, ◌*◌, ◌/◌, ◌%◌, ◌<◌, ◌≤◌, Bool, true, false, not, ◌&&◌, ◌||◌, cond, Option, Some, None, List, [], ◌∷◌, ◌++◌, map, refl, sym, ap, ◌∙◌, inl, inr, arith, eqb}
use Rattle.std.specs.Prelude.{nat_lt, nat_le, if◌then◌else◌, is_some, filter, count_by}
use Rattle.std.specs.List.{range_with_len, list_any}
use Rattle.std.proofs.lemmas.Bool.{le-leb, lt-leb, lt-ltb, le-ltb, and_right, eq-eqb, ne_eqb, cases_lt}
use Rattle.std.proofs.lemmas.List.{append-nil, flat_map_more}
use Rattle.std.proofs.lemmas.List.Sums.{sum_by_push}
use Rattle.std.proofs.Math.Nat.{mul-le-mul_right}
use Rattle.pdh_spans.specs.Times.{Turn, begun_with, begun_after, stands_after}
use Rattle.pdh_spans.specs.Times.Turn.{Begins, Ends}
use Rattle.pdh_spans.proofs.Turning.{begun_push}
use Rattle.pdh_seconds.specs.declared.second.Second.{Second}
use Rattle.pdh_timeline.specs.declared.state.State.{State}
use Rattle.pdh_timeline.specs.declared.state.State.TheVariants.{Out, Ais, Alarm}
use Rattle.pdh_timeline.specs.declared.touch.Touch.{Touch}
use Rattle.pdh_timeline.specs.Touches.{touch_begins, touch_ends}
use Rattle.pdh_timeline.specs.Marks.{Mark, place_of, is_in, by_start, is_state, turn_of, turns_of, begins, is_errored, is_far, touches, blocks_in, is_told, second_from, second_at, whole_seconds}
use Rattle.pdh_timeline.specs.Marks.Mark.{Turns, Errored, Far}
use Rattle.pdh_timeline.specs.Standing.{AreBefore, TouchIs}

-- 1 for true
abbrev pub one_if : Bool → ℕ
one_if b = cond b 1 0

-- ---- lists with one more

or_false : (b : Bool) → (b || false) ≡ b
or_false true = refl
or_false false = refl

or_assoc : (a b c : Bool) → (a || (b || c)) ≡ ((a || b) || c)
or_assoc true b c = refl
or_assoc false b c = refl

and_true : (b : Bool) → (b && true) ≡ b
and_true true = refl
and_true false = refl

any_push : (test : Mark → Bool) (marks : List Mark) (mark : Mark) → list_any test (marks ++ mark ∷ []) ≡ (list_any test marks || test mark)
any_push test [] mark = or_false (test mark)
any_push test (first ∷ marks) mark = ap (λ b. test first || b) (any_push test marks mark) ∙ or_assoc (test first) (list_any test marks) (test mark)

count_push : (test : Mark → Bool) (marks : List Mark) (mark : Mark) → count_by test (marks ++ mark ∷ []) ≡ count_by test marks + cond (test mark) 1 0
count_push test marks mark = sum_by_push (λ m. cond (test m) 1 0) marks mark

filter_push : (test : Mark → Bool) (marks : List Mark) (mark : Mark) → filter test (marks ++ mark ∷ []) ≡ filter test marks ++ cond (test mark) (mark ∷ []) []
filter_push test [] mark = refl
filter_push test (first ∷ marks) mark =
    ap (λ l. cond (test first) (first ∷ l) l) (filter_push test marks mark) ∙ put (test first) (filter test marks) (cond (test mark) (mark ∷ []) [])
  where
    put : (b : Bool) (xs ys : List Mark) → cond b (first ∷ (xs ++ ys)) (xs ++ ys) ≡ cond b (first ∷ xs) xs ++ ys
    put true xs ys = refl
    put false xs ys = refl

pub turns_push : (state : State) (marks : List Mark) (mark : Mark) → turns_of state (marks ++ mark ∷ []) ≡ turns_of state marks ++ turn_of state mark
turns_push state marks mark = sym (flat_map_more (turn_of state) [] marks mark)

-- ---- a state

-- whether a state stands behind a mark, by whether it stood before it
abbrev stands_with : State → Mark → Bool → Bool
stands_with state (Turns other (Begins place)) stood = (if is_state state other then true else stood)
stands_with state (Turns other (Ends place)) stood = (if is_state state other then false else stood)
stands_with state (Errored place) stood = stood
stands_with state (Far place) stood = stood

begun_some : (begun : Option ℕ) (place : ℕ) → is_some (begun_with begun (Begins place)) ≡ true
begun_some None place = refl
begun_some (Some from) place = refl

begun_none : (begun : Option ℕ) (place : ℕ) → is_some (begun_with begun (Ends place)) ≡ false
begun_none None place = refl
begun_none (Some from) place = refl

stands_begins : (turns : List Turn) (place : ℕ) (own : Bool) → stands_after (turns ++ (if own then Begins place ∷ [] else [])) ≡ (if own then true else stands_after turns)
stands_begins turns place true = ap is_some (begun_push turns (Begins place)) ∙ begun_some (begun_after turns) place
stands_begins turns place false = ap stands_after (append-nil turns)

stands_ends : (turns : List Turn) (place : ℕ) (own : Bool) → stands_after (turns ++ (if own then Ends place ∷ [] else [])) ≡ (if own then false else stands_after turns)
stands_ends turns place true = ap is_some (begun_push turns (Ends place)) ∙ begun_none (begun_after turns) place
stands_ends turns place false = ap stands_after (append-nil turns)

stands_push : (state : State) (marks : List Mark) (mark : Mark) → stands_after (turns_of state (marks ++ mark ∷ [])) ≡ stands_with state mark (stands_after (turns_of state marks))
stands_push state marks (Turns other (Begins place)) = ap stands_after (turns_push state marks (Turns other (Begins place))) ∙ stands_begins (turns_of state marks) place (is_state state other)
stands_push state marks (Turns other (Ends place)) = ap stands_after (turns_push state marks (Turns other (Ends place))) ∙ stands_ends (turns_of state marks) place (is_state state other)
stands_push state marks (Errored place) = ap stands_after (turns_push state marks (Errored place) ∙ append-nil (turns_of state marks))
stands_push state marks (Far place) = ap stands_after (turns_push state marks (Far place) ∙ append-nil (turns_of state marks))

-- what is kept of a state, with a mark at the first bit of the second or at a later one
abbrev pub touch_with : Bool → State → Mark → Touch → Touch
touch_with at_start state (Turns other (Begins place)) touch = touch_begins (is_state state other) at_start touch
touch_with at_start state (Turns other (Ends place)) touch = touch_ends (is_state state other) at_start touch
touch_with at_start state (Errored place) touch = touch
touch_with at_start state (Far place) touch = touch

touch_stands : (at_start : Bool) (state : State) (mark : Mark) (touch : Touch) → (touch_with at_start state mark touch).stands ≡ stands_with state mark touch.stands
touch_stands at_start state (Turns other (Begins place)) touch = by_own (is_state state other)
  where
    by_own : (own : Bool) → (touch_begins own at_start touch).stands ≡ (if own then true else touch.stands)
    by_own true = refl
    by_own false = refl
touch_stands at_start state (Turns other (Ends place)) touch = by_own (is_state state other)
  where
    by_own : (own : Bool) → (touch_ends own at_start touch).stands ≡ (if own then false else touch.stands)
    by_own true = refl
    by_own false = refl
touch_stands at_start state (Errored place) touch = refl
touch_stands at_start state (Far place) touch = refl

or_at : (start at_start : Bool) → (start || at_start) ≡ (if at_start then true else start)
or_at true true = refl
or_at true false = refl
or_at false true = refl
or_at false false = refl

and_at : (start at_start : Bool) → (start && not at_start) ≡ (if at_start then false else start)
and_at true true = refl
and_at true false = refl
and_at false true = refl
and_at false false = refl

same_if : (b c : Bool) → c ≡ (if b then c else c)
same_if true c = refl
same_if false c = refl

touch_start : (at_start : Bool) (state : State) (mark : Mark) (touch : Touch)
    → (touch_with at_start state mark touch).start ≡ (if at_start then stands_with state mark touch.start else touch.start)
touch_start at_start state (Turns other (Begins place)) touch = by_own (is_state state other)
  where
    by_own : (own : Bool) → (touch_begins own at_start touch).start ≡ (if at_start then (if own then true else touch.start) else touch.start)
    by_own true = or_at touch.start at_start
    by_own false = same_if at_start touch.start
touch_start at_start state (Turns other (Ends place)) touch = by_own (is_state state other)
  where
    by_own : (own : Bool) → (touch_ends own at_start touch).start ≡ (if at_start then (if own then false else touch.start) else touch.start)
    by_own true = and_at touch.start at_start
    by_own false = same_if at_start touch.start
touch_start at_start state (Errored place) touch = same_if at_start touch.start
touch_start at_start state (Far place) touch = same_if at_start touch.start

or_own : (begun own : Bool) → (if own then true else begun) ≡ (begun || own)
or_own true true = refl
or_own true false = refl
or_own false true = refl
or_own false false = refl

touch_begun : (at_start : Bool) (state : State) (mark : Mark) (touch : Touch) → (touch_with at_start state mark touch).begun ≡ (touch.begun || begins state mark)
touch_begun at_start state (Turns other (Begins place)) touch = by_own (is_state state other)
  where
    by_own : (own : Bool) → (touch_begins own at_start touch).begun ≡ (touch.begun || own)
    by_own true = or_own touch.begun true
    by_own false = or_own touch.begun false
touch_begun at_start state (Turns other (Ends place)) touch = by_own (is_state state other)
  where
    by_own : (own : Bool) → (touch_ends own at_start touch).begun ≡ (touch.begun || false)
    by_own true = sym (or_false touch.begun)
    by_own false = sym (or_false touch.begun)
touch_begun at_start state (Errored place) touch = sym (or_false touch.begun)
touch_begun at_start state (Far place) touch = sym (or_false touch.begun)

-- ---- where a mark comes

-- a mark comes in second s
pub record ComesIn (rate s : ℕ) (at_start : Bool) (mark : Mark) : Type 0 where
  pub low : s * rate ≤ place_of mark
  pub high : place_of mark < suc s * rate
  pub at_is : at_start ≡ nat_le (place_of mark) (s * rate)

-- by the quotient and the remainder of its place
pub comes_in : (rate : ℕ) (mark : Mark) → 0 < rate → ComesIn rate (place_of mark / rate) (eqb (place_of mark % rate) 0) mark
comes_in rate mark some =
    let place = place_of mark in
    let whole : place / rate * rate + place % rate ≡ place = omega arith in
    let part : place % rate < rate = omega (arith, some) in
    let more : suc (place / rate) * rate ≡ place / rate * rate + rate = omega arith in
    record {
      low = omega (arith, whole);
      high = omega (arith, whole, part, more);
      at_is = elim (cases_lt 0 (place % rate)) [
        | inl later ↦ ne_eqb (place % rate) 0 (λ e. absurd (omega (arith, later, e))) ∙ sym (lt-leb place (place / rate * rate) (omega (arith, whole, later)))
        | inr first ↦
            let none : place % rate ≡ 0 = omega (arith, first) in
            eq-eqb (place % rate) 0 none ∙ sym (le-leb place (place / rate * rate) (omega (arith, whole, none)))
      ];
    }

in_second : (rate s : ℕ) (at_start : Bool) (mark : Mark) → ComesIn rate s at_start mark → is_in rate s mark ≡ true
in_second rate s at_start mark comes =
    ap (λ b. b && nat_lt (place_of mark) (suc s * rate)) (le-leb (s * rate) (place_of mark) comes.low) ∙ lt-ltb (place_of mark) (suc s * rate) comes.high

-- what is kept of a state for the second in which a mark comes
pub touch_push : (state : State) (rate s : ℕ) (touch : Touch) (marks : List Mark) (at_start : Bool) (mark : Mark) → ComesIn rate s at_start mark → TouchIs state rate s touch marks
    → TouchIs state rate s (touch_with at_start state mark touch) (marks ++ mark ∷ [])
touch_push state rate s touch marks at_start mark comes is = record {
  stands_is = touch_stands at_start state mark touch ∙ ap (stands_with state mark) is.stands_is ∙ sym (stands_push state marks mark);
  start_is =
      touch_start at_start state mark touch ∙ ap (λ b. if at_start then stands_with state mark b else b) is.start_is
      ∙ ap (λ b. if b then stands_with state mark (stands_after (turns_of state (by_start rate s marks))) else stands_after (turns_of state (by_start rate s marks))) comes.at_is
      ∙ sym (ap (λ l. stands_after (turns_of state l)) (filter_push (λ m. nat_le (place_of m) (s * rate)) marks mark) ∙ by_test (nat_le (place_of mark) (s * rate)));
  begun_is =
      touch_begun at_start state mark touch ∙ ap (λ b. b || begins state mark) is.begun_is
      ∙ ap (λ b. list_any (λ m. begins state m && is_in rate s m) marks || b) (sym (and_true (begins state mark)) ∙ ap (λ b. begins state mark && b) (sym (in_second rate s at_start mark comes)))
      ∙ sym (any_push (λ m. begins state m && is_in rate s m) marks mark);
}
  where
    by_test : (b : Bool) → stands_after (turns_of state (by_start rate s marks ++ cond b (mark ∷ []) []))
        ≡ (if b then stands_with state mark (stands_after (turns_of state (by_start rate s marks))) else stands_after (turns_of state (by_start rate s marks)))
    by_test true = stands_push state (by_start rate s marks) mark
    by_test false = ap (λ l. stands_after (turns_of state l)) (append-nil (by_start rate s marks))

-- ---- seconds that are over

-- a later mark is in none of them
not_in : (rate k : ℕ) (mark : Mark) → suc k * rate ≤ place_of mark → is_in rate k mark ≡ false
not_in rate k mark later = and_right (nat_le (k * rate) (place_of mark)) (nat_lt (place_of mark) (suc k * rate)) (le-ltb (place_of mark) (suc k * rate) later)

any_over : (test : Mark → Bool) (rate k : ℕ) (marks : List Mark) (mark : Mark) → suc k * rate ≤ place_of mark
    → list_any (λ m. test m && is_in rate k m) (marks ++ mark ∷ []) ≡ list_any (λ m. test m && is_in rate k m) marks
any_over test rate k marks mark later =
    any_push (λ m. test m && is_in rate k m) marks mark
    ∙ ap (λ b. list_any (λ m. test m && is_in rate k m) marks || b) (and_right (test mark) (is_in rate k mark) (not_in rate k mark later))
    ∙ or_false (list_any (λ m. test m && is_in rate k m) marks)

start_over : (rate k : ℕ) (marks : List Mark) (mark : Mark) → k * rate < place_of mark → by_start rate k (marks ++ mark ∷ []) ≡ by_start rate k marks
start_over rate k marks mark later =
    filter_push (λ m. nat_le (place_of m) (k * rate)) marks mark
    ∙ ap (λ b. by_start rate k marks ++ cond b (mark ∷ []) []) (lt-leb (place_of mark) (k * rate) later)
    ∙ append-nil (by_start rate k marks)

touches_over : (state : State) (rate k : ℕ) (marks : List Mark) (mark : Mark) → 0 < rate → suc k * rate ≤ place_of mark → touches state rate k (marks ++ mark ∷ []) ≡ touches state rate k marks
touches_over state rate k marks mark some later =
    let more : suc k * rate ≡ k * rate + rate = omega arith in
    ap (λ l. stands_after (turns_of state l) || list_any (λ m. begins state m && is_in rate k m) (marks ++ mark ∷ [])) (start_over rate k marks mark (omega (arith, later, some, more)))
    ∙ ap (λ b. stands_after (turns_of state (by_start rate k marks)) || b) (any_over (begins state) rate k marks mark later)

blocks_over : (rate k : ℕ) (marks : List Mark) (mark : Mark) → suc k * rate ≤ place_of mark → blocks_in rate k (marks ++ mark ∷ []) ≡ blocks_in rate k marks
blocks_over rate k marks mark later =
    let all : blocks_in rate k (marks ++ mark ∷ []) ≡ blocks_in rate k marks + cond (is_errored mark && is_in rate k mark) 1 0 = count_push (λ m. is_errored m && is_in rate k m) marks mark in
    let none : ◌≡◌ {A = ℕ} (cond (is_errored mark && is_in rate k mark) 1 0) 0 = ap one_if (and_right (is_errored mark) (is_in rate k mark) (not_in rate k mark later)) in
    omega (arith, all, none)

pub second_is : (block bits : ℕ) (o o' a a' r r' : Bool) (n n' : ℕ) (f f' : Bool) → o ≡ o' → a ≡ a' → r ≡ r' → n ≡ n' → f ≡ f' → second_from block bits o a r n f ≡ second_from block bits o' a' r' n' f'
second_is block bits o o' a a' r r' n n' f f' out ais alarm blocks far =
    ap (λ x. second_from block bits x a r n f) out ∙ ap (λ x. second_from block bits o' x r n f) ais ∙ ap (λ x. second_from block bits o' a' x n f) alarm
    ∙ ap (λ x. second_from block bits o' a' r' x f) blocks ∙ ap (λ x. second_from block bits o' a' r' n' x) far

second_over : (block rate bits k : ℕ) (marks : List Mark) (mark : Mark) → 0 < rate → suc k * rate ≤ place_of mark → second_at block rate bits (marks ++ mark ∷ []) k ≡ second_at block rate bits marks k
second_over block rate bits k marks mark some later =
    second_is block bits _ _ _ _ _ _ _ _ _ _ (touches_over Out rate k marks mark some later) (touches_over Ais rate k marks mark some later) (touches_over Alarm rate k marks mark some later)
    (blocks_over rate k marks mark later) (any_over is_far rate k marks mark later)

map_same : (f g : ℕ → Second) (from count : ℕ) → ((k : ℕ) → k < from + count → f k ≡ g k) → map f (range_with_len from count) ≡ map g (range_with_len from count)
map_same f g from zero same = refl
map_same f g from (suc count) same =
    ap (λ x. x ∷ map f (range_with_len (from + 1) count)) (same from (omega arith))
    ∙ ap (λ l. g from ∷ l) (map_same f g (from + 1) count (λ k h. same k (omega (arith, h))))

pub seconds_over : (block rate s : ℕ) (marks : List Mark) (mark : Mark) → 0 < rate → s * rate ≤ place_of mark → whole_seconds block rate (marks ++ mark ∷ []) s ≡ whole_seconds block rate marks s
seconds_over block rate s marks mark some low =
    map_same (second_at block rate rate (marks ++ mark ∷ [])) (second_at block rate rate marks) 0 s (λ k h.
    let below : suc k ≤ s = omega (arith, h) in
    let most : suc k * rate ≤ s * rate = mul-le-mul_right rate below in
    second_over block rate rate k marks mark some (omega (arith, most, low)))

-- ---- counts and places

pub before_push : (place : ℕ) (marks : List Mark) (mark : Mark) → AreBefore place marks → place_of mark < place → AreBefore place (marks ++ mark ∷ [])
before_push place [] mark before is = (is, tt)
before_push place (first ∷ marks) mark before is = (before.0, before_push place marks mark before.1 is)

-- a mark that isn't an errored block
pub blocks_same : (rate s : ℕ) (marks : List Mark) (mark : Mark) → is_errored mark ≡ false → blocks_in rate s (marks ++ mark ∷ []) ≡ blocks_in rate s marks
blocks_same rate s marks mark other =
    let all : blocks_in rate s (marks ++ mark ∷ []) ≡ blocks_in rate s marks + cond (is_errored mark && is_in rate s mark) 1 0 = count_push (λ m. is_errored m && is_in rate s m) marks mark in
    let none : ◌≡◌ {A = ℕ} (cond (is_errored mark && is_in rate s mark) 1 0) 0 = ap (λ (b : Bool). one_if (b && is_in rate s mark)) other in
    omega (arith, all, none)

-- and one that is
pub blocks_more : (rate s : ℕ) (marks : List Mark) (at_start : Bool) (mark : Mark) → ComesIn rate s at_start mark → is_errored mark ≡ true → blocks_in rate s (marks ++ mark ∷ []) ≡ blocks_in rate s marks + 1
blocks_more rate s marks at_start mark comes own =
    let all : blocks_in rate s (marks ++ mark ∷ []) ≡ blocks_in rate s marks + cond (is_errored mark && is_in rate s mark) 1 0 = count_push (λ m. is_errored m && is_in rate s m) marks mark in
    let one : ◌≡◌ {A = ℕ} (cond (is_errored mark && is_in rate s mark) 1 0) 1 =
    ap (λ (b : Bool). one_if (b && is_in rate s mark)) own ∙ ap one_if (in_second rate s at_start mark comes) in
    omega (arith, all, one)

-- the same of errors that the far end tells
pub told_same : (rate s : ℕ) (marks : List Mark) (mark : Mark) → is_far mark ≡ false → is_told rate s (marks ++ mark ∷ []) ≡ is_told rate s marks
told_same rate s marks mark other =
    any_push (λ m. is_far m && is_in rate s m) marks mark ∙ ap (λ b. is_told rate s marks || (b && is_in rate s mark)) other ∙ or_false (is_told rate s marks)

pub told_more : (rate s : ℕ) (marks : List Mark) (at_start : Bool) (mark : Mark) → ComesIn rate s at_start mark → is_far mark ≡ true → is_told rate s (marks ++ mark ∷ []) ≡ true
told_more rate s marks at_start mark comes own =
    any_push (λ m. is_far m && is_in rate s m) marks mark ∙ ap (λ b. is_told rate s marks || (b && is_in rate s mark)) own
    ∙ ap (λ b. is_told rate s marks || b) (in_second rate s at_start mark comes) ∙ or_true (is_told rate s marks)
  where
    or_true : (b : Bool) → (b || true) ≡ true
    or_true true = refl
    or_true false = refl
