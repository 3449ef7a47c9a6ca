-- The first of a list of options that is there.
use Rattle.std.proofs.Common.{◌≡◌, ℕ, zero, suc, ◌+◌, ◌<◌, ◌≤◌, Bool, true, false, List, [], ◌∷◌, ◌++◌, map, cond, refl, ap, ◌∙◌, subst, arith, None, Some, Option, inl, inr}
use Rattle.std.specs.Prelude.{flat_map}
use Rattle.std.specs.List.{range_with_len}
use Rattle.std.proofs.lemmas.Bool.{cases_eq}
use Rattle.pdh_tx.specs.Held.{first_some, some_if}

pub first_after : {X : Type 0} (a b : List (Option X)) → first_some a ≡ None → first_some (a ++ b) ≡ first_some b
first_after [] b h = refl
first_after (None ∷ a) b h = first_after a b h
first_after (Some x ∷ a) b h = cc

pub first_here : {X : Type 0} (a b : List (Option X)) (x : X) → first_some a ≡ Some x → first_some (a ++ b) ≡ Some x
first_here [] b x h = cc
first_here (None ∷ a) b x h = first_here a b x h
first_here (Some y ∷ a) b x h = h

pub flat_none : {X : Type 0} (f : ℕ → List (Option X)) (a n : ℕ) → ((j : ℕ) → a ≤ j → j < a + n → first_some (f j) ≡ None) → first_some (flat_map f (range_with_len a n)) ≡ None
flat_none f a zero h = refl
flat_none f a (suc n) h = first_after (f a) (flat_map f (range_with_len (a + 1) n)) (h a (omega arith) (omega arith)) ∙ flat_none f (a + 1) n (λ j l m. h j (omega arith) (omega arith))

pub flat_some : {X : Type 0} (f : ℕ → List (Option X)) (x : X) (a n j : ℕ) → a ≤ j → j < a + n → ((i : ℕ) → a ≤ i → i < j → first_some (f i) ≡ None) → first_some (f j) ≡ Some x
    → first_some (flat_map f (range_with_len a n)) ≡ Some x
flat_some f x a zero j l m h e = absurd (omega arith)
flat_some f x a (suc n) j l m h e = elim (cases_eq a j) [
  | inl same ↦ first_here (f a) (flat_map f (range_with_len (a + 1) n)) x (ap (λ i. first_some (f i)) same ∙ e)
  | inr other ↦
      let later : a + 1 ≤ j = omega arith in
      first_after (f a) (flat_map f (range_with_len (a + 1) n)) (h a (omega arith) (omega arith)) ∙ flat_some f x (a + 1) n j later (omega arith) (λ i l m. h i (omega arith) m) e
]

pub map_none : {X : Type 0} (f : ℕ → Option X) (a n : ℕ) → ((j : ℕ) → a ≤ j → j < a + n → f j ≡ None) → first_some (map f (range_with_len a n)) ≡ None
map_none f a zero h = refl
map_none f a (suc n) h = ap (λ o. first_some (o ∷ map f (range_with_len (a + 1) n))) (h a (omega arith) (omega arith)) ∙ map_none f (a + 1) n (λ j l m. h j (omega arith) (omega arith))

pub map_some : {X : Type 0} (f : ℕ → Option X) (x : X) (a n j : ℕ) → a ≤ j → j < a + n → ((i : ℕ) → a ≤ i → i < j → f i ≡ None) → f j ≡ Some x → first_some (map f (range_with_len a n)) ≡ Some x
map_some f x a zero j l m h e = absurd (omega arith)
map_some f x a (suc n) j l m h e = elim (cases_eq a j) [
  | inl same ↦ ap (λ o. first_some (o ∷ map f (range_with_len (a + 1) n))) (ap f same ∙ e)
  | inr other ↦
      let later : a + 1 ≤ j = omega arith in
      ap (λ o. first_some (o ∷ map f (range_with_len (a + 1) n))) (h a (omega arith) (omega arith)) ∙ map_some f x (a + 1) n j later (omega arith) (λ i l m. h i (omega arith) m) e
]

-- the first of values with tests is one of the values
pub first_of : {X : Type 0} (P : X → Type 0) (test : ℕ → Bool) (f : ℕ → X) (js : List ℕ) (x : X) → ((j : ℕ) → P (f j)) → first_some (map (λ j. some_if (test j) (f j)) js) ≡ Some x → P x
first_of P test f [] x all h = absurd (none h)
  where
    none : None ≡ Some x → ⊥
    none h = cc
first_of P test f (j ∷ js) x all h = go (test j) (first_of P test f js x all) h
  where
    same : Some (f j) ≡ Some x → f j ≡ x
    same e = cc

    go : (b : Bool) → (first_some (map (λ i. some_if (test i) (f i)) js) ≡ Some x → P x) → first_some (cond b (Some (f j)) None ∷ map (λ i. some_if (test i) (f i)) js) ≡ Some x → P x
    go true later e = subst P (same e) (all j)
    go false later e = later e
