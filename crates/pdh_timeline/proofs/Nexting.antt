-- What is kept where the next second begins.
use Rattle.std.proofs.Common.{◌≡◌, ℕ, zero, suc, ◌+◌, ◌*◌, ◌<◌, ◌≤◌, Bool, false, ◌&&◌, ◌||◌, cond, List, [], ◌∷◌, ◌++◌, map, refl, sym, ap, ◌∙◌, arith}
use Rattle.std.specs.Prelude.{nat_lt, nat_le, count_by}
use Rattle.std.specs.List.{range_with_len, list_any}
use Rattle.std.proofs.lemmas.Bool.{le-leb, lt-leb, and_left, and_right}
use Rattle.std.proofs.lemmas.List.{map_push}
use Rattle.std.proofs.lemmas.List.Sums.{sum_by-cons}
use Rattle.pdh_spans.specs.Times.{stands_after}
use Rattle.pdh_timeline.specs.declared.state.State.{State}
use Rattle.pdh_timeline.specs.declared.touch.Touch.{Touch}
use Rattle.pdh_timeline.specs.Touches.{next_touch}
use Rattle.pdh_timeline.specs.Marks.{Mark, place_of, is_in, by_start, turns_of, begins, is_errored, is_far, blocks_in, is_told, second_at, whole_seconds}
use Rattle.pdh_timeline.specs.Standing.{AreBefore, TouchIs}
use Rattle.pdh_timeline.proofs.Adding.{one_if}

-- marks before a bit
start_all : (rate s : ℕ) (marks : List Mark) → AreBefore (s * rate) marks → by_start rate s marks ≡ marks
start_all rate s [] before = refl
start_all rate s (mark ∷ marks) before =
    ap (λ b. cond b (mark ∷ by_start rate s marks) (by_start rate s marks)) (le-leb (place_of mark) (s * rate) (omega (arith, before.0)))
    ∙ ap (λ (l : List Mark). mark ∷ l) (start_all rate s marks before.1)

early : (rate s : ℕ) (mark : Mark) → place_of mark < s * rate → is_in rate s mark ≡ false
early rate s mark before = and_left (nat_le (s * rate) (place_of mark)) (nat_lt (place_of mark) (suc s * rate)) (lt-leb (s * rate) (place_of mark) before)

any_none : (test : Mark → Bool) (rate s : ℕ) (marks : List Mark) → AreBefore (s * rate) marks → list_any (λ m. test m && is_in rate s m) marks ≡ false
any_none test rate s [] before = refl
any_none test rate s (mark ∷ marks) before =
    ap (λ b. b || list_any (λ m. test m && is_in rate s m) marks) (and_right (test mark) (is_in rate s mark) (early rate s mark before.0))
    ∙ any_none test rate s marks before.1

count_none : (test : Mark → Bool) (rate s : ℕ) (marks : List Mark) → AreBefore (s * rate) marks → count_by (λ m. test m && is_in rate s m) marks ≡ 0
count_none test rate s [] before = refl
count_none test rate s (mark ∷ marks) before =
    let all : count_by (λ m. test m && is_in rate s m) (mark ∷ marks) ≡ cond (test mark && is_in rate s mark) 1 0 + count_by (λ m. test m && is_in rate s m) marks =
    sum_by-cons (λ m. cond (test m && is_in rate s m) 1 0) mark marks in
    let none : ◌≡◌ {A = ℕ} (cond (test mark && is_in rate s mark) 1 0) 0 = ap one_if (and_right (test mark) (is_in rate s mark) (early rate s mark before.0)) in
    let rest : count_by (λ m. test m && is_in rate s m) marks ≡ 0 = count_none test rate s marks before.1 in
    omega (arith, all, none, rest)

pub blocks_none : (rate s : ℕ) (marks : List Mark) → AreBefore (s * rate) marks → blocks_in rate s marks ≡ 0
blocks_none rate s marks before = count_none is_errored rate s marks before

pub told_none : (rate s : ℕ) (marks : List Mark) → AreBefore (s * rate) marks → is_told rate s marks ≡ false
told_none rate s marks before = any_none is_far rate s marks before

pub touch_next : (state : State) (rate s : ℕ) (touch : Touch) (marks : List Mark) → AreBefore (suc s * rate) marks → TouchIs state rate s touch marks → TouchIs state rate (suc s) (next_touch touch) marks
touch_next state rate s touch marks before is = record {
  stands_is = is.stands_is;
  start_is = is.stands_is ∙ ap (λ (l : List Mark). stands_after (turns_of state l)) (sym (start_all rate (suc s) marks before));
  begun_is = sym (any_none (begins state) rate (suc s) marks before);
}

pub before_more : (place more : ℕ) (marks : List Mark) → place ≤ more → AreBefore place marks → AreBefore more marks
before_more place more [] le before = tt
before_more place more (mark ∷ marks) le before = (omega (arith, before.0, le), before_more place more marks le before.1)

range_push : (a n : ℕ) → range_with_len a (suc n) ≡ range_with_len a n ++ (a + n) ∷ []
range_push a zero = ap (λ x. x ∷ []) (omega arith)
range_push a (suc n) =
    let rest : range_with_len (a + 1) (suc n) ≡ range_with_len (a + 1) n ++ (a + 1 + n) ∷ [] = range_push (a + 1) n in
    let e : a + 1 + n ≡ a + suc n = omega arith in
    ap (λ x. a ∷ x) (rest ∙ ap (λ k. range_with_len (a + 1) n ++ k ∷ []) e)

pub seconds_push : (block rate s : ℕ) (marks : List Mark) → whole_seconds block rate marks (suc s) ≡ whole_seconds block rate marks s ++ second_at block rate rate marks s ∷ []
seconds_push block rate s marks =
    let zero_s : 0 + s ≡ s = omega arith in
    ap (map (second_at block rate rate marks)) (range_push 0 s) ∙ map_push (second_at block rate rate marks) (range_with_len 0 s) (0 + s)
    ∙ ap (λ (k : ℕ). whole_seconds block rate marks s ++ second_at block rate rate marks k ∷ []) zero_s
