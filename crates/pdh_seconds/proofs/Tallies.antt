-- Counts of seconds: of two times together, of seconds that are unavailable, and how large they are.
use Rattle.std.proofs.Common.{◌≡◌, ℕ, ◌+◌, ◌<◌, ◌^◌, Bool, true, false, cond, List, [], ◌∷◌, ◌++◌, length, map, refl, ap, sym, ◌∙◌, subst, arith}
use Rattle.std.specs.Prelude.{count_by}
use Rattle.std.proofs.lemmas.List.{length-append, length-map, map_push}
use Rattle.std.proofs.lemmas.List.Sums.{sum_by-append, sum_by-cons, count_by-le-length}
use Rattle.pdh_seconds.specs.declared.second.Second.{Second}
use Rattle.pdh_seconds.specs.declared.tally.Tally.{Tally}
use Rattle.pdh_seconds.specs.Availability.{Told, told_as}
use Rattle.pdh_seconds.specs.Counting.{is_errored, is_severe, is_far, tally_of, sum_of, Fit, tally_as}

-- two times
pub tally_append : (a b : List Told) → tally_of (a ++ b) ≡ sum_of (tally_of a) (tally_of b)
tally_append a b = λ i. record {
  seconds = length-append a b i;
  errored = sum_by-append (λ (told : Told). cond (is_errored told) 1 0) a b i;
  severe = sum_by-append (λ (told : Told). cond (is_severe told) 1 0) a b i;
  unavailable = sum_by-append (λ (told : Told). cond told.unavailable 1 0) a b i;
  far = sum_by-append (λ (told : Told). cond (is_far told) 1 0) a b i;
}

-- seconds of which none passes a test
none_counted : (test : Told → Bool) → ((second : Second) → test (told_as true second) ≡ false) → (seconds : List Second) → count_by test (map (told_as true) seconds) ≡ 0
none_counted test fails [] = refl
none_counted test fails (second ∷ seconds) =
    let step : count_by test (told_as true second ∷ map (told_as true) seconds) ≡ cond (test (told_as true second)) 1 0 + count_by test (map (told_as true) seconds) =
    sum_by-cons (λ (told : Told). cond (test told) 1 0) (told_as true second) (map (told_as true) seconds) in
    let none : ◌≡◌ {A = ℕ} (cond (test (told_as true second)) 1 0) 0 = ap (λ (passes : Bool). cond passes 1 0) (fails second) in
    let rest : count_by test (map (told_as true) seconds) ≡ 0 = none_counted test fails seconds in
    omega (arith, step, none, rest)

-- all of them are unavailable
all_counted : (seconds : List Second) → count_by (λ (told : Told). told.unavailable) (map (told_as true) seconds) ≡ length (map (told_as false) seconds)
all_counted [] = refl
all_counted (second ∷ seconds) =
    let step : count_by (λ (told : Told). told.unavailable) (told_as true second ∷ map (told_as true) seconds) ≡ 1 + count_by (λ (told : Told). told.unavailable) (map (told_as true) seconds) =
    sum_by-cons (λ (told : Told). cond told.unavailable 1 0) (told_as true second) (map (told_as true) seconds) in
    let rest : count_by (λ (told : Told). told.unavailable) (map (told_as true) seconds) ≡ length (map (told_as false) seconds) = all_counted seconds in
    omega (arith, step, rest)

-- seconds that are told as unavailable or as available
tally_told : (unavailable : Bool) (seconds : List Second) → tally_of (map (told_as unavailable) seconds) ≡ tally_as unavailable (tally_of (map (told_as false) seconds))
tally_told false seconds = refl
tally_told true seconds = λ i. record {
  seconds = (length-map seconds (told_as true) ∙ sym (length-map seconds (told_as false))) i;
  errored = none_counted is_errored (λ second. refl) seconds i;
  severe = none_counted is_severe (λ second. refl) seconds i;
  unavailable = all_counted seconds i;
  far = none_counted is_far (λ second. refl) seconds i;
}

-- the sum of what was settled and of what is settled now
pub settled_sum : (unavailable : Bool) (settled : List Told) (waiting : List Second) (s w : Tally) → s ≡ tally_of settled → w ≡ tally_of (map (told_as false) waiting)
    → sum_of s (tally_as unavailable w) ≡ tally_of (settled ++ map (told_as unavailable) waiting)
settled_sum unavailable settled waiting s w settled_are waiting_are =
    ap (λ (t : Tally). sum_of t (tally_as unavailable w)) settled_are
    ∙ ap (λ (t : Tally). sum_of (tally_of settled) (tally_as unavailable t)) waiting_are
    ∙ ap (λ (t : Tally). sum_of (tally_of settled) t) (sym (tally_told unavailable waiting))
    ∙ sym (tally_append settled (map (told_as unavailable) waiting))

-- one more that waits
pub waiting_sum : (waiting : List Second) (second : Second) (w : Tally) → w ≡ tally_of (map (told_as false) waiting)
    → sum_of w (tally_of (told_as false second ∷ [])) ≡ tally_of (map (told_as false) (waiting ++ second ∷ []))
waiting_sum waiting second w are =
    ap (λ (t : Tally). sum_of t (tally_of (told_as false second ∷ []))) are
    ∙ sym (tally_append (map (told_as false) waiting) (told_as false second ∷ []))
    ∙ ap tally_of (sym (map_push (told_as false) waiting second))

-- no count is above the number of seconds, so sums fit where that number does
fit_lists : (a b : List Told) → length a + length b < 2 ^ 64 → Fit (tally_of a) (tally_of b)
fit_lists a b few = record {
  seconds = few;
  errored = omega (arith, few, count_by-le-length is_errored a, count_by-le-length is_errored b);
  severe = omega (arith, few, count_by-le-length is_severe a, count_by-le-length is_severe b);
  unavailable = omega (arith, few, count_by-le-length (λ (told : Told). told.unavailable) a, count_by-le-length (λ (told : Told). told.unavailable) b);
  far = omega (arith, few, count_by-le-length is_far a, count_by-le-length is_far b);
}

pub fit_told : (unavailable : Bool) (settled : List Told) (waiting : List Second) (s w : Tally) → s ≡ tally_of settled → w ≡ tally_of (map (told_as false) waiting)
    → length settled + length waiting < 2 ^ 64 → Fit s (tally_as unavailable w)
fit_told unavailable settled waiting s w settled_are waiting_are few =
    let told : length (map (told_as unavailable) waiting) ≡ length waiting = length-map waiting (told_as unavailable) in
    let fits : Fit (tally_of settled) (tally_of (map (told_as unavailable) waiting)) = fit_lists settled (map (told_as unavailable) waiting) (omega (arith, few, told)) in
    let same : tally_of (map (told_as unavailable) waiting) ≡ tally_as unavailable w = tally_told unavailable waiting ∙ ap (tally_as unavailable) (sym waiting_are) in
    subst (λ (t : Tally). Fit t (tally_as unavailable w)) (sym settled_are) (subst (λ (t : Tally). Fit (tally_of settled) t) same fits)

pub fit_one : (waiting : List Second) (second : Second) (w one : Tally) → w ≡ tally_of (map (told_as false) waiting) → one ≡ tally_of (told_as false second ∷ [])
    → length waiting < 10 → Fit w one
fit_one waiting second w one are one_is few =
    let told : length (map (told_as false) waiting) ≡ length waiting = length-map waiting (told_as false) in
    let fits : Fit (tally_of (map (told_as false) waiting)) (tally_of (told_as false second ∷ [])) =
    fit_lists (map (told_as false) waiting) (told_as false second ∷ []) (omega (arith, few, told)) in
    subst (λ (t : Tally). Fit t one) (sym are) (subst (λ (t : Tally). Fit (tally_of (map (told_as false) waiting)) t) (sym one_is) fits)
