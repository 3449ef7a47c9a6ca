-- The first number of a range that passes a test, and lists that are the same element by element.
use Rattle.std.proofs.Common.{◌≡◌, ℕ, zero, suc, ◌+◌, ◌<◌, ◌≤◌, Bool, true, false, List, [], ◌∷◌, ◌++◌, map, length, get_or, Option, None, Some, refl, ap, sym, ◌∙◌, inl, inr, arith}
use Rattle.std.specs.Prelude.{find, flat_map}
use Rattle.std.specs.Option.{option_map}
use Rattle.std.specs.List.{range_with_len}
use Rattle.std.proofs.lemmas.Bool.{cases_eq, cases_Bool}
use Rattle.std.proofs.lemmas.List.{get_or-map}

-- ---- the first of a range

pub first_of_range : (test : ℕ → Bool) (a n k : ℕ) → a ≤ k → k < a + n → ((i : ℕ) → a ≤ i → i < k → test i ≡ false) → test k ≡ true → find test (range_with_len a n) ≡ Some k
first_of_range test a zero k from below before here = absurd (omega arith)
first_of_range test a (suc n) k from below before here = elim (cases_eq k a) [
  | inl same ↦ let passes : test a ≡ true = ap test (sym same) ∙ here in rw passes (ap Some (sym same))
  | inr other ↦
      let fails : test a ≡ false = before a (omega arith) (omega arith) in
      rw fails (first_of_range test (a + 1) n k (omega arith) (omega arith) (λ i h h'. before i (omega arith) h') here)
]

pub none_of_range : (test : ℕ → Bool) (a n : ℕ) → ((i : ℕ) → a ≤ i → i < a + n → test i ≡ false) → find test (range_with_len a n) ≡ None
none_of_range test a zero none = refl
none_of_range test a (suc n) none =
    let fails : test a ≡ false = none a (omega arith) (omega arith) in
    rw fails (none_of_range test (a + 1) n (λ i h h'. none i (omega arith) (omega arith)))

-- where none is found, none passes
pub head_fails : {X : Type 0} (test : X → Bool) (x : X) (xs : List X) → find test (x ∷ xs) ≡ None → (test x ≡ false) × (find test xs ≡ None)
head_fails test x xs none = elim (cases_Bool (test x)) [
  | inl passes ↦ absurd (let found : find test (x ∷ xs) ≡ Some x = rw passes refl in let wrong : Some x ≡ None = sym found ∙ none in cc)
  | inr fails ↦ (fails, (let rest : find test (x ∷ xs) ≡ find test xs = rw fails refl in sym rest ∙ none))
]

pub each_fails : (test : ℕ → Bool) (a n k : ℕ) → find test (range_with_len a n) ≡ None → a ≤ k → k < a + n → test k ≡ false
each_fails test a zero k none from below = absurd (omega arith)
each_fails test a (suc n) k none from below =
    let parts = head_fails test a (range_with_len (a + 1) n) none in
    elim (cases_eq k a) [
      | inl same ↦ ap test same ∙ parts.0
      | inr other ↦ each_fails test (a + 1) n k parts.1 (omega arith) (omega arith)
    ]

-- of what a function makes of each element
pub find-map : {X Y : Type 0} (test : Y → Bool) (f : X → Y) (xs : List X) → find test (map f xs) ≡ option_map f (find (λ x. test (f x)) xs)
find-map test f [] = refl
find-map test f (x ∷ xs) = elim (cases_Bool (test (f x))) [ inl passes ↦ rw passes refl | inr fails ↦ rw fails (find-map test f xs) ]

none_of_map : {X : Type 0} (o : Option X) {Y : Type 0} (f : X → Y) → option_map f o ≡ None → o ≡ None
none_of_map None f h = refl
none_of_map (Some x) f h = cc

pub none_of_map_found : {X Y : Type 0} (f : X → Y) (o : Option X) → option_map f o ≡ None → o ≡ None
none_of_map_found f o h = none_of_map o f h

none_of_both : {X : Type 0} (test : X → Bool) (xs ys : List X) → find test (xs ++ ys) ≡ None → (find test xs ≡ None) × (find test ys ≡ None)
none_of_both test [] ys none = (refl, none)
none_of_both test (x ∷ xs) ys none =
    let parts = head_fails test x (xs ++ ys) none in
    let rest = none_of_both test xs ys parts.1 in
    (rw parts.0 rest.0, rest.1)

-- of lists that are joined end to end
pub none_of_each : {X : Type 0} (test : X → Bool) (f : ℕ → List X) (a n k : ℕ) → find test (flat_map f (range_with_len a n)) ≡ None → a ≤ k → k < a + n → find test (f k) ≡ None
none_of_each test f a zero k none from below = absurd (omega arith)
none_of_each test f a (suc n) k none from below =
    let parts = none_of_both test (f a) (flat_map f (range_with_len (a + 1) n)) none in
    elim (cases_eq k a) [
      | inl same ↦ ap (λ i. find test (f i)) same ∙ parts.0
      | inr other ↦ none_of_each test f (a + 1) n k parts.1 (omega arith) (omega arith)
    ]

-- ---- two functions that make the same list make the same of each element

pub same_on : {X Y : Type 0} (f g : X → Y) (xs : List X) (k : ℕ) (d : X) → map f xs ≡ map g xs → k < length xs → f (get_or xs k d) ≡ g (get_or xs k d)
same_on f g xs k d same h = sym (get_or-map f xs k d (f d) h) ∙ ap (λ l. get_or l k (f d)) same ∙ get_or-map g xs k d (f d) h
