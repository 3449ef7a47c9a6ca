-- Lists of names that differ.
use Rattle.std.proofs.Common.{◌≡◌, ◌⊎◌, ℕ, zero, suc, ◌+◌, ◌<◌, List, [], ◌∷◌, ◌++◌, map, Some, slice_get, refl, ap, sym, ◌∙◌, inl, inr, arith}
use Rattle.std.specs.List.{range_with_len}
use Rattle.std.proofs.lemmas.Option.{none-some, same_Some}
use Rattle.pdh_blocks.specs.Held.{AllDiffer}

pub none_differ : AllDiffer []
none_differ i j name here there = absurd (none-some name here)

-- one name before others
pub one_more_differs : (first : List ℕ) (names : List (List ℕ)) → AllDiffer names → ((k : ℕ) → slice_get names k ≡ Some first → ⊥) → AllDiffer (first ∷ names)
one_more_differs first names differ new zero zero name here there = refl
one_more_differs first names differ new zero (suc j) name here there = absurd (new j (there ∙ sym here))
one_more_differs first names differ new (suc i) zero name here there = absurd (new i (here ∙ sym there))
one_more_differs first names differ new (suc i) (suc j) name here there = ap suc (differ i j name here there)

-- the elements of a list of numbered things
pub numbered : {X : Type 0} (f : ℕ → X) (a n i : ℕ) (x : X) → slice_get (map f (range_with_len a n)) i ≡ Some x → (i < n) × (x ≡ f (a + i))
numbered f a zero i x here = absurd (none-some x here)
numbered f a (suc n) zero x here = let same : a ≡ a + 0 = omega arith in (omega arith, sym (same_Some _ _ here) ∙ ap f same)
numbered f a (suc n) (suc i) x here =
    let rest = numbered f (a + 1) n i x here in
    let same : a + 1 + i ≡ a + suc i = omega arith in
    (omega (arith, rest.0), rest.1 ∙ ap f same)

pub numbered_at : {X : Type 0} (f : ℕ → X) (a n i j : ℕ) → i < n → a + i ≡ j → slice_get (map f (range_with_len a n)) i ≡ Some (f j)
numbered_at f a zero i j low same = absurd (omega arith)
numbered_at f a (suc n) zero j low same = let is : a ≡ j = omega arith in ap (λ k. Some (f k)) is
numbered_at f a (suc n) (suc i) j low same = numbered_at f (a + 1) n i j (omega arith) (omega arith)

-- numbered names
pub numbered_differ : (f : ℕ → List ℕ) (n : ℕ) → ((a b : ℕ) → a < n → b < n → f a ≡ f b → a ≡ b) → AllDiffer (map f (range_with_len 0 n))
numbered_differ f n apart i j name here there =
    let a = numbered f 0 n i name here in
    let b = numbered f 0 n j name there in
    let same : i ≡ 0 + i = omega arith in
    let same' : 0 + j ≡ j = omega arith in
    apart i j a.0 b.0 (ap f same ∙ sym a.1 ∙ b.1 ∙ ap f same')

-- a name is among others or behind them
pub in_last : (names : List (List ℕ)) (last : List ℕ) (k : ℕ) (name : List ℕ) → slice_get (names ++ last ∷ []) k ≡ Some name → (slice_get names k ≡ Some name) ⊎ (name ≡ last)
in_last [] last zero name here = inr (sym (same_Some _ _ here))
in_last [] last (suc k) name here = absurd (none-some name here)
in_last (first ∷ names) last zero name here = inl here
in_last (first ∷ names) last (suc k) name here = in_last names last k name here

-- one name behind others
pub last_differs : (names : List (List ℕ)) (last : List ℕ) → AllDiffer names → ((k : ℕ) → slice_get names k ≡ Some last → ⊥) → AllDiffer (names ++ last ∷ [])
last_differs [] last differ new = one_more_differs last [] none_differ (λ k here. none-some last here)
last_differs (first ∷ names) last differ new =
    one_more_differs first (names ++ last ∷ [])
    (last_differs names last (λ i j name here there. let both : suc i ≡ suc j = differ (suc i) (suc j) name here there in omega arith) (λ k here. new (suc k) here))
    (λ k here. elim (in_last names last k first here) [
      | inl among ↦ (let wrong : zero ≡ suc k = differ zero (suc k) first refl among in omega arith)
      | inr is_last ↦ new zero (ap Some is_last)
    ])
