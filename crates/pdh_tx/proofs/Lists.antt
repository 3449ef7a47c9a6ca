-- What stands at a place of a list.
use Rattle.std.proofs.Common.{◌≡◌, inl, inr, ℕ, zero, suc, ◌+◌, ◌<◌, ◌≤◌, List, [], ◌∷◌, ◌++◌, length, map, refl, sym, ap, ◌∙◌, subst, arith, Some, slice_get, slice_set}
use Rattle.std.proofs.lemmas.Option.{slice_get-map}
use Rattle.std.proofs.lemmas.List.{append-nil, length-map}
use Rattle.std.proofs.lemmas.Bool.{cases_eq}
use Rattle.std.specs.Prelude.{flat_map}
use Rattle.std.specs.List.{range_with_len}
use Rattle.pdh_tx.proofs.Moving.{inside}

pub some_same : {X : Type 0} {a b : X} → Some a ≡ Some b → a ≡ b
some_same h = cc

pub get_at : {X : Type 0} (xs : List X) (i : ℕ) → i < length xs → (x : X) × (slice_get xs i ≡ Some x)
get_at [] i h = absurd (omega arith)
get_at (x ∷ xs) zero h = (x, refl)
get_at (x ∷ xs) (suc i) h = get_at xs i (omega arith)

-- what lies at j after a write elsewhere
pub get_other : {X : Type 0} (xs : List X) (i j : ℕ) (y : X) → (j ≡ i → ⊥) → slice_get (slice_set xs i y) j ≡ slice_get xs j
get_other [] i j y h = refl
get_other (x ∷ xs) zero zero y h = absurd (h refl)
get_other (x ∷ xs) zero (suc j) y h = refl
get_other (x ∷ xs) (suc i) zero y h = refl
get_other (x ∷ xs) (suc i) (suc j) y h = get_other xs i j y (λ e. h (ap suc e))

-- a fact of the parts of each that are the same
pub transfer : {W X Y : Type 0} (f : W → X) (g : W → Y) (P : X → Y → ℕ → Type 0) (mid new : List W) → map f new ≡ map f mid → map g new ≡ map g mid
    → ((j : ℕ) (w : W) → slice_get mid j ≡ Some w → P (f w) (g w) j) → (j : ℕ) (w : W) → slice_get new j ≡ Some w → P (f w) (g w) j
transfer {X = X} {Y = Y} f g P mid new fs gs each j w e =
    let long : length mid ≡ length new = sym (length-map mid f) ∙ ap length (sym fs) ∙ length-map new f in
    let at = get_at mid j (let i = inside new j w e in omega arith) in
    let same : f at.0 ≡ f w = some_same (sym (slice_get-map f mid j ∙ (let a = at.1 in rw a refl)) ∙ ap (λ l. slice_get l j) (sym fs) ∙ slice_get-map f new j ∙ rw e refl) in
    let same' : g at.0 ≡ g w = some_same (sym (slice_get-map g mid j ∙ (let a = at.1 in rw a refl)) ∙ ap (λ l. slice_get l j) (sym gs) ∙ slice_get-map g new j ∙ rw e refl) in
    let Q : X → Type 0 = λ v. P v (g w) j in
    let R : Y → Type 0 = λ v. P (f at.0) v j in
    subst Q same (subst R same' (each j at.0 at.1))

-- a fact of one part of each
pub transfer_one : {W X : Type 0} (f : W → X) (P : X → ℕ → Type 0) (mid new : List W) → map f new ≡ map f mid
    → ((j : ℕ) (w : W) → slice_get mid j ≡ Some w → P (f w) j) → (j : ℕ) (w : W) → slice_get new j ≡ Some w → P (f w) j
transfer_one f P mid new same each = transfer f f (λ x y j. P x j) mid new same same each

-- lists of which at most one isn't empty, joined
pub flat_nothing : {X : Type 0} (f : ℕ → List X) (a n : ℕ) → ((j : ℕ) → a ≤ j → j < a + n → f j ≡ []) → flat_map f (range_with_len a n) ≡ []
flat_nothing f a zero h = refl
flat_nothing f a (suc n) h = ap (λ l. l ++ flat_map f (range_with_len (a + 1) n)) (h a (omega arith) (omega arith)) ∙ flat_nothing f (a + 1) n (λ j l m. h j (omega arith) (omega arith))

pub flat_one : {X : Type 0} (f : ℕ → List X) (a n i : ℕ) → a ≤ i → i < a + n → ((j : ℕ) → (j ≡ i → ⊥) → f j ≡ []) → flat_map f (range_with_len a n) ≡ f i
flat_one f a zero i l m h = absurd (omega arith)
flat_one f a (suc n) i l m h = elim (cases_eq a i) [
  | inl same ↦ ap (λ l. f a ++ l) (flat_nothing f (a + 1) n (λ j from to. h j (λ e. omega (arith, e, same, from)))) ∙ append-nil (f a) ∙ ap f same
  | inr other ↦ ap (λ l. l ++ flat_map f (range_with_len (a + 1) n)) (h a other) ∙ flat_one f (a + 1) n i (omega arith) (omega arith) h
]
