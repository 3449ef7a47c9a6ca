-- Events whose lists begin with the same numbers, and the order of such lists.
use Rattle.std.proofs.Common.{◌≡◌, ℕ, ◌<◌, Bool, true, false, cond, ltb, List, [], ◌∷◌, ◌++◌, refl, sym, ap, ◌∙◌, inl, inr, arith, append_assoc}
use Rattle.std.proofs.lemmas.Bool.{eq-eqb, ne_eqb, lt-ltb, le-ltb, ltb-true, cases_eq}
use Rattle.pdh_line.specs.Events.{Event}
use Rattle.pdh_nesting.specs.StepOrder.{comes_before, Keyed, at_key, below_key, Before}
use Rattle.pdh_nesting.proofs.SlipOnce.{AtMostOne}
use Rattle.pdh_nesting.proofs.Orders.{Each, Ordered, Across, each-always, each-map, ordered-map, ordered-weaker, across-by}

-- ---- lists of numbers

-- after the same numbers what follows decides
pub comes_before-same : (numbers a b : List ℕ) → comes_before (numbers ++ a) (numbers ++ b) ≡ comes_before a b
comes_before-same [] a b = refl
comes_before-same (n ∷ numbers) a b =
    ap (λ same. cond same (comes_before (numbers ++ a) (numbers ++ b)) (ltb n n)) (eq-eqb n n refl) ∙ comes_before-same numbers a b

comes_before-less : (m n : ℕ) (a b : List ℕ) → m < n → comes_before (m ∷ a) (n ∷ b) ≡ true
comes_before-less m n a b h =
    ap (λ same. cond same (comes_before a b) (ltb m n)) (ne_eqb m n (λ same. omega arith)) ∙ lt-ltb m n h

-- no list comes before itself,
pub comes_before-self : (a : List ℕ) → comes_before a a ≡ false
comes_before-self [] = refl
comes_before-self (n ∷ a) = ap (λ same. cond same (comes_before a a) (ltb n n)) (eq-eqb n n refl) ∙ comes_before-self a

-- and of two lists only one before the other
pub comes_before-other : (a b : List ℕ) → comes_before a b ≡ true → comes_before b a ≡ false
comes_before-other [] b h = cc
comes_before-other (m ∷ a) [] h = refl
comes_before-other (m ∷ a) (n ∷ b) h =
    elim (cases_eq m n) [
      | inl same ↦
          let rest : comes_before a b ≡ true = ap (λ same. cond same (comes_before a b) (ltb m n)) (sym (eq-eqb m n same)) ∙ h in
          ap (λ same. cond same (comes_before b a) (ltb n m)) (eq-eqb n m (sym same)) ∙ comes_before-other a b rest
      | inr other ↦
          let less : ltb m n ≡ true = ap (λ same. cond same (comes_before a b) (ltb m n)) (sym (ne_eqb m n other)) ∙ h in
          ap (λ same. cond same (comes_before b a) (ltb n m)) (ne_eqb n m (λ e. other (sym e))) ∙ le-ltb n m (omega (arith, ltb-true m n less))
    ]

-- the event's list begins with these numbers
abbrev pub Begins : List ℕ → Keyed → Type 0
Begins numbers event = (rest : List ℕ) × (event.0 ≡ numbers ++ rest)

pub begins-below : (numbers : List ℕ) (keyed : List Keyed) → Each (Begins numbers) (below_key numbers keyed)
begins-below numbers keyed = each-map (Begins numbers) (λ event. (numbers ++ event.0, event.1)) keyed (each-always _ keyed (λ event. (event.0, refl)))

pub begins-at : (key : List ℕ) (events : List Event) → Each (λ event. event.0 ≡ key) (at_key key events)
begins-at key events = each-map (λ event. event.0 ≡ key) (λ event. (key, event)) events (each-always _ events (λ event. refl))

-- where lists begin with the same numbers and then a smaller and a greater one, the first comes before the second
pub less-after : (numbers : List ℕ) (m n : ℕ) (a b : Keyed) → m < n → Begins (numbers ++ m ∷ []) a → Begins (numbers ++ n ∷ []) b → Before a b
less-after numbers m n a b h ea eb =
    ap (comes_before a.0) (eb.1 ∙ append_assoc numbers (n ∷ []) eb.0) ∙ ap (λ key. comes_before key (numbers ++ n ∷ eb.0)) (ea.1 ∙ append_assoc numbers (m ∷ []) ea.0)
    ∙ comes_before-same numbers (m ∷ ea.0) (n ∷ eb.0) ∙ comes_before-less m n ea.0 eb.0 h

-- so do all events of one list before all of the other
pub across-less : (numbers : List ℕ) (m n : ℕ) (a b : List Keyed) → m < n → Each (Begins (numbers ++ m ∷ [])) a → Each (Begins (numbers ++ n ∷ [])) b → Across Before a b
across-less numbers m n a b h ea eb = across-by Before (Begins (numbers ++ m ∷ [])) (Begins (numbers ++ n ∷ [])) a b (λ x y. less-after numbers m n x y h) ea eb

pub ordered-below : (numbers : List ℕ) (keyed : List Keyed) → Ordered Before keyed → Ordered Before (below_key numbers keyed)
ordered-below numbers keyed ordered =
    ordered-map Before (λ event. (numbers ++ event.0, event.1)) keyed
    (ordered-weaker Before (λ a b. Before (numbers ++ a.0, a.1) (numbers ++ b.0, b.1)) keyed (λ a b before. comes_before-same numbers a.0 b.0 ∙ before) ordered)

-- ---- tests

pub ordered-if : (test : Bool) (keyed : List Keyed) → Ordered Before keyed → Ordered Before (cond test keyed [])
ordered-if true keyed ordered = ordered
ordered-if false keyed ordered = tt

pub each-if : (P : Keyed → Type 0) (test : Bool) (keyed : List Keyed) → Each P keyed → Each P (cond test keyed [])
each-if P true keyed each = each
each-if P false keyed each = tt

pub ordered-one : (key : List ℕ) (events : List Event) → AtMostOne events → Ordered Before (at_key key events)
ordered-one key [] few = tt
ordered-one key (event ∷ []) few = (tt, tt)
ordered-one key (event ∷ other ∷ events) few = absurd few

-- two lists of events of which one is empty
pub across-one : (key : List ℕ) (a b : List Event) → ((x y : Event) (xs ys : List Event) → a ≡ x ∷ xs → b ≡ y ∷ ys → ⊥) → Across Before (at_key key a) (at_key key b)
across-one key [] b apart = tt
across-one key (x ∷ xs) [] apart = nothing (at_key key (x ∷ xs))
  where
    nothing : (keyed : List Keyed) → Across Before keyed []
    nothing [] = tt
    nothing (first ∷ keyed) = (tt, nothing keyed)
across-one key (x ∷ xs) (y ∷ ys) apart = absurd (apart x y xs ys refl refl)
