-- The first run that breaks the tolerance, by the first runs that pass each of its bounds.
use Rattle.std.proofs.Common.{◌≡◌, ℕ, zero, suc, ◌+◌, ◌-◌, ◌*◌, ◌<◌, ◌≤◌, nat_lt, nat_le, ◌==◌, ◌||◌, ◌&&◌, Bool, true, false, cond, Option, Some, None, ◌⊎◌, inl, inr, refl, sym, ap, ◌∙◌, subst, arith}
use Rattle.std.specs.Prelude.{find, is_some, MatchOption}
use Rattle.std.specs.Option.{option_map, option_and_then}
use Rattle.std.specs.List.{range_with_len}
use Rattle.std.proofs.lemmas.Bool.{cases_lt}
use Rattle.std.proofs.lemmas.Bool.Decides.{nat_tests}
use Rattle.std.proofs.Math.Nat.{mul-add}
use Rattle.pdh_line.specs.Progress.{arrived}
use Rattle.pdh_shape.specs.OwnNumbers.{allowance}
use Rattle.pdh_line.specs.Tolerance.{arrived_over}
use Rattle.pdh_line.proofs.FillBounds.{arrived-run}
use Rattle.pdh_rows.specs.declared.tolerance.Bound.TheVariants.{Most, Least}
use Rattle.pdh_rows.specs.declared.tolerance.Span.{Span}
use Rattle.pdh_rows.specs.Outside.{breaks, Run, run_between, first_start, first_outside}
use Rattle.pdh_rows.specs.Bounds.{gains, losses, Passes, Keeps, AllKeep, IsFirstBreak, is_earlier, earlier}
use Rattle.pdh_rows.proofs.OutsideLaws.{none_found}

find_first : (p : ℕ → Bool) (first n k : ℕ) → first ≤ k → k < first + n → p k ≡ true
    → ((j : ℕ) → j < k → p j ≡ false) → find p (range_with_len first n) ≡ Some k
find_first p first zero k low high is least = absurd (omega arith)
find_first p first (suc n) k low high is least = elim (cases_lt first k) [
  | inl later ↦ rw (least first later) (find_first p (first + 1) n k (omega arith) (omega arith) is least)
  | inr here ↦
      let same : first ≡ k = omega arith in
      let passes : p first ≡ true = ap p same ∙ is in
      rw passes (ap Some same)
]

-- ---- one run

arrived_between : (counts : ℕ → ℕ) (from to : ℕ) → from ≤ to → arrived counts to ≡ arrived counts from + arrived_over counts from (to - from)
arrived_between counts from to h =
    let end : from + (to - from) ≡ to = omega arith in
    sym (ap (arrived counts) end) ∙ arrived-run counts from (to - from)

product_between : (low from to : ℕ) → from ≤ to → low * to ≡ low * from + low * (to - from)
product_between low from to h =
    let end : to ≡ from + (to - from) = omega arith in
    ap (λ n. low * n) end ∙ mul-add low from (to - from)

passes_most : (low : ℕ) (counts : ℕ → ℕ) (from to : ℕ) → from ≤ to → Passes (gains Most low counts) (losses Most low counts) from to
    → breaks low counts from (to - from) ≡ true
passes_most low counts from to h passes =
    let arrived_is = arrived_between counts from to h in
    let carried_is = product_between (suc low) from to h in
    let over : nat_lt (suc low * (to - from) + allowance) (arrived_over counts from (to - from)) ≡ true =
    let lt : suc low * (to - from) + allowance < arrived_over counts from (to - from) = omega (arith, arrived_is, carried_is, passes) in grind (arith, nat_tests) in
    rw over refl

or_true : (b : Bool) → (b || true) ≡ true
or_true true = refl
or_true false = refl

passes_least : (low : ℕ) (counts : ℕ → ℕ) (from to : ℕ) → from ≤ to → Passes (gains Least low counts) (losses Least low counts) from to
    → breaks low counts from (to - from) ≡ true
passes_least low counts from to h passes =
    let arrived_is = arrived_between counts from to h in
    let carried_is = product_between low from to h in
    let under : nat_lt (arrived_over counts from (to - from) + allowance) (low * (to - from)) ≡ true =
    let lt : arrived_over counts from (to - from) + allowance < low * (to - from) = omega (arith, arrived_is, carried_is, passes) in grind (arith, nat_tests) in
    rw under (or_true _)

-- a run with as many bits as the tolerance allows
pub keeps_run : (low : ℕ) (counts : ℕ → ℕ) (first run : ℕ) → arrived_over counts first run ≤ suc low * run + allowance
    → low * run ≤ arrived_over counts first run + allowance → breaks low counts first run ≡ false
keeps_run low counts first run most least =
    let over : nat_lt (suc low * run + allowance) (arrived_over counts first run) ≡ false = grind (arith, nat_tests) in
    let under : nat_lt (arrived_over counts first run + allowance) (low * run) ≡ false = grind (arith, nat_tests) in
    rw (over, under) refl

keeps_both : (low : ℕ) (counts : ℕ → ℕ) (from to : ℕ) → from ≤ to → Keeps (gains Most low counts) (losses Most low counts) from to
    → Keeps (gains Least low counts) (losses Least low counts) from to → breaks low counts from (to - from) ≡ false
keeps_both low counts from to h most least =
    let arrived_is = arrived_between counts from to h in
    let most_carried = product_between (suc low) from to h in
    let least_carried = product_between low from to h in
    keeps_run low counts from (to - from) (omega (arith, arrived_is, most_carried, most)) (omega (arith, arrived_is, least_carried, least))

-- ---- the first run

pub none_breaks : (low : ℕ) (counts : ℕ → ℕ) (frames : ℕ) → ((m n : ℕ) → m ≤ n → n ≤ frames → breaks low counts m (n - m) ≡ false)
    → first_outside low counts frames ≡ None
unfolding first_outside
none_breaks low counts frames none =
    let starts : (to : ℕ) → to < 0 + suc frames → is_some (first_start low counts to) ≡ false =
    λ to h. ap is_some (none_found (λ from. breaks low counts from (to - from)) 0 (suc to) (λ from h'. none from to (omega arith) (omega arith))) in
    rw (none_found (λ to. is_some (first_start low counts to)) 0 (suc frames) starts) refl

-- a run breaks the tolerance, and none does that ends before, or there and begins before
record BreaksFirst (low : ℕ) (counts : ℕ → ℕ) (frames from to : ℕ) : Type 0 where
  before : from ≤ to
  inside : to ≤ frames
  run_breaks : breaks low counts from (to - from) ≡ true
  least_end : (m n : ℕ) → m ≤ n → n < to → breaks low counts m (n - m) ≡ false
  least_start : (m : ℕ) → m < from → breaks low counts m (to - m) ≡ false

first_breaks : (low : ℕ) (counts : ℕ → ℕ) (frames from to : ℕ) → BreaksFirst low counts frames from to
    → first_outside low counts frames ≡ Some (run_between counts from to)
unfolding first_outside
first_breaks low counts frames from to h =
    let before = h.before in
    let inside = h.inside in
    let start : first_start low counts to ≡ Some from = find_first (λ m. breaks low counts m (to - m)) 0 (suc to) from (omega arith) (omega arith) h.run_breaks h.least_start in
    let end : find (λ n. is_some (first_start low counts n)) (range_with_len 0 (suc frames)) ≡ Some to =
    find_first (λ n. is_some (first_start low counts n)) 0 (suc frames) to (omega arith) (omega arith) (ap is_some start)
    (λ n l. ap is_some (none_found (λ m. breaks low counts m (n - m)) 0 (suc n) (λ m l'. h.least_end m n (omega arith) l))) in
    ap (λ o. option_and_then (λ to. option_map (λ from. run_between counts from to) (first_start low counts to)) o) end
    ∙ ap (λ o. option_map (λ from. run_between counts from to) o) start

-- ---- by both bounds

abbrev pub run_of_span : (ℕ → ℕ) → Span → Run
run_of_span counts span = run_between counts span.from span.to

abbrev MostBreak : ℕ → (ℕ → ℕ) → ℕ → Span → Type 0
MostBreak low counts frames span = IsFirstBreak (gains Most low counts) (losses Most low counts) frames span

abbrev LeastBreak : ℕ → (ℕ → ℕ) → ℕ → Span → Type 0
LeastBreak low counts frames span = IsFirstBreak (gains Least low counts) (losses Least low counts) frames span

-- what is known of a bound up to the end of a run and before its start: no run passes it
record KeepsBefore (gains losses : ℕ → ℕ) (span : Span) : Type 0 where
  least_end : (m n : ℕ) → m ≤ n → n < span.to → Keeps gains losses m n
  least_start : (m : ℕ) → m < span.from → Keeps gains losses m span.to

keeps_none : (gains losses : ℕ → ℕ) (frames : ℕ) (span : Span) → AllKeep gains losses frames → span.from ≤ span.to → span.to ≤ frames → KeepsBefore gains losses span
keeps_none gains losses frames span keep before inside = record {
  least_end = λ m n h l. keep m n h (omega arith);
  least_start = λ m h. keep m span.to (omega arith) inside;
}

keeps_own : (gains losses : ℕ → ℕ) (frames : ℕ) (span : Span) → IsFirstBreak gains losses frames span → KeepsBefore gains losses span
keeps_own gains losses frames span h = record { least_end = h.least_end; least_start = h.least_start }

-- one run ends before the other, or with it and begins no later
abbrev Earlier : Span → Span → Type 0
Earlier a b = (a.to < b.to) ⊎ ((a.to ≡ b.to) × (a.from ≤ b.from))

keeps_earlier : (gains losses : ℕ → ℕ) (frames : ℕ) (a b : Span) → IsFirstBreak gains losses frames b → a.from ≤ a.to → Earlier a b → KeepsBefore gains losses a
keeps_earlier gains losses frames a b h before (inl ends) = record {
  least_end = λ m n h' l. h.least_end m n h' (omega arith);
  least_start = λ m h'. h.least_end m a.to (omega arith) ends;
}
keeps_earlier gains losses frames a b h before (inr (same, begins)) = record {
  least_end = λ m n h' l. h.least_end m n h' (omega arith);
  least_start = λ m h'. subst (λ n. Keeps gains losses m n) (sym same) (h.least_start m (omega arith));
}

most_first : (low : ℕ) (counts : ℕ → ℕ) (frames : ℕ) (span : Span) → MostBreak low counts frames span
    → KeepsBefore (gains Least low counts) (losses Least low counts) span → first_outside low counts frames ≡ Some (run_of_span counts span)
most_first low counts frames span h other = first_breaks low counts frames span.from span.to (record {
  before = h.before;
  inside = h.inside;
  run_breaks = passes_most low counts span.from span.to h.before h.passes;
  least_end = λ m n l l'. keeps_both low counts m n l (h.least_end m n l l') (other.least_end m n l l');
  least_start = λ m l. keeps_both low counts m span.to (let b = h.before in omega arith) (h.least_start m l) (other.least_start m l);
})

least_first : (low : ℕ) (counts : ℕ → ℕ) (frames : ℕ) (span : Span) → LeastBreak low counts frames span
    → KeepsBefore (gains Most low counts) (losses Most low counts) span → first_outside low counts frames ≡ Some (run_of_span counts span)
least_first low counts frames span h other = first_breaks low counts frames span.from span.to (record {
  before = h.before;
  inside = h.inside;
  run_breaks = passes_least low counts span.from span.to h.before h.passes;
  least_end = λ m n l l'. keeps_both low counts m n l (other.least_end m n l l') (h.least_end m n l l');
  least_start = λ m l. keeps_both low counts m span.to (let b = h.before in omega arith) (other.least_start m l) (h.least_start m l);
})

is_earlier-true : (a b : Span) → is_earlier a b ≡ true → Earlier a b
is_earlier-true a b h = elim (cases_lt a.to b.to) [
  | inl ends ↦ inl ends
  | inr others ↦
      let ends : nat_lt a.to b.to ≡ false = grind (arith, nat_tests) in
      let rest : (a.to == b.to && nat_le a.from b.from) ≡ true = rw ends at h in
      inr (grind (arith, nat_tests), grind (arith, nat_tests))
]

is_earlier-false : (a b : Span) → is_earlier a b ≡ false → Earlier b a
is_earlier-false a b h = elim (cases_lt b.to a.to) [
  | inl ends ↦ inl ends
  | inr others ↦
      let same : a.to ≡ b.to = elim (cases_lt a.to b.to) [
        | inl ends ↦ (let is : nat_lt a.to b.to ≡ true = grind (arith, nat_tests) in let wrong : true ≡ false = rw is at h in cc)
        | inr not_before ↦ omega arith
      ] in
      let ends : nat_lt a.to b.to ≡ false = grind (arith, nat_tests) in
      let equal : (a.to == b.to) ≡ true = grind (arith, nat_tests) in
      let rest : nat_le a.from b.from ≡ false = rw (ends, equal) at h in
      inr (sym same, grind (arith, nat_tests))
]

two_breaks : (low : ℕ) (counts : ℕ → ℕ) (frames : ℕ) (most least : Span) → MostBreak low counts frames most → LeastBreak low counts frames least
    → (b : Bool) → is_earlier most least ≡ b → first_outside low counts frames ≡ option_map (run_of_span counts) (cond b (Some most) (Some least))
two_breaks low counts frames most least h h' true is =
    most_first low counts frames most h (keeps_earlier (gains Least low counts) (losses Least low counts) frames most least h' h.before (is_earlier-true most least is))
two_breaks low counts frames most least h h' false is =
    least_first low counts frames least h' (keeps_earlier (gains Most low counts) (losses Most low counts) frames least most h h'.before (is_earlier-false most least is))

by_both : (low : ℕ) (counts : ℕ → ℕ) (frames : ℕ) (most least : Option Span)
    → MatchOption most (AllKeep (gains Most low counts) (losses Most low counts) frames) (MostBreak low counts frames)
    → MatchOption least (AllKeep (gains Least low counts) (losses Least low counts) frames) (LeastBreak low counts frames)
    → first_outside low counts frames ≡ option_map (run_of_span counts) (earlier most least)
by_both low counts frames None None h h' = none_breaks low counts frames (λ m n l l'. keeps_both low counts m n l (h m n l l') (h' m n l l'))
by_both low counts frames None (Some least) h h' =
    least_first low counts frames least h' (keeps_none (gains Most low counts) (losses Most low counts) frames least h h'.before h'.inside)
by_both low counts frames (Some most) None h h' =
    most_first low counts frames most h (keeps_none (gains Least low counts) (losses Least low counts) frames most h' h.before h.inside)
by_both low counts frames (Some most) (Some least) h h' = two_breaks low counts frames most least h h' (is_earlier most least) refl

pub first_of_both : (low : ℕ) (counts : ℕ → ℕ) (frames : ℕ) (most least both : Option Span)
    → MatchOption most (AllKeep (gains Most low counts) (losses Most low counts) frames) (IsFirstBreak (gains Most low counts) (losses Most low counts) frames)
    → MatchOption least (AllKeep (gains Least low counts) (losses Least low counts) frames) (IsFirstBreak (gains Least low counts) (losses Least low counts) frames)
    → both ≡ earlier most least → first_outside low counts frames ≡ option_map (run_of_span counts) both
first_of_both low counts frames most least both h h' e = by_both low counts frames most least h h' ∙ ap (option_map (run_of_span counts)) (sym e)

-- a run that an answer names, with the bits that arrive in it
pub run_sum : (counts : ℕ → ℕ) (from to : ℕ) → from ≤ to → arrived counts to - arrived counts from ≡ arrived_over counts from (to - from)
run_sum counts from to h = let e = arrived_between counts from to h in omega arith

pub arrived_grows : (counts : ℕ → ℕ) (from to : ℕ) → from ≤ to → arrived counts from ≤ arrived counts to
arrived_grows counts from to h = let e = arrived_between counts from to h in omega arith

-- the earlier of two first runs ends within the frames, behind its start
pub record IsSpan (frames : ℕ) (span : Span) : Type 0 where
  pub before : span.from ≤ span.to
  pub inside : span.to ≤ frames

pub earlier_is_span : (gains losses gains' losses' : ℕ → ℕ) (frames : ℕ) (most least : Option Span) (span : Span)
    → MatchOption most (AllKeep gains losses frames) (IsFirstBreak gains losses frames)
    → MatchOption least (AllKeep gains' losses' frames) (IsFirstBreak gains' losses' frames)
    → earlier most least ≡ Some span → IsSpan frames span
earlier_is_span gains losses gains' losses' frames None None span h h' e = cc
earlier_is_span gains losses gains' losses' frames None (Some least) span h h' e =
    let same : least ≡ span = cc in subst (IsSpan frames) same (record { before = h'.before; inside = h'.inside })
earlier_is_span gains losses gains' losses' frames (Some most) None span h h' e =
    let same : most ≡ span = cc in subst (IsSpan frames) same (record { before = h.before; inside = h.inside })
earlier_is_span gains losses gains' losses' frames (Some most) (Some least) span h h' e = go (is_earlier most least) e
  where
    go : (b : Bool) → cond b (Some most) (Some least) ≡ Some span → IsSpan frames span
    go true e' = let same : most ≡ span = cc in subst (IsSpan frames) same (record { before = h.before; inside = h.inside })
    go false e' = let same : least ≡ span = cc in subst (IsSpan frames) same (record { before = h'.before; inside = h'.inside })
