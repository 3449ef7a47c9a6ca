-- What holds of each tributary at some numbers.
use Rattle.std.proofs.Common.{◌≡◌, ℕ, zero, suc, ◌<◌, List, [], ◌∷◌, length, subst, Some, slice_get, arith}

pub inside : {X : Type 0} (xs : List X) (j : ℕ) (x : X) → slice_get xs j ≡ Some x → j < length xs
inside {X = X} [] j x e = absurd (none j e)
  where
    none : (j : ℕ) → slice_get {X = X} [] j ≡ Some x → ⊥
    none j h = cc
inside (y ∷ xs) zero x e = omega arith
inside (y ∷ xs) (suc j) x e = let r = inside xs j x e in omega arith

-- the numbers of those that are there are others
pub each_now : {W R : Type 0} (P : W → ℕ → R → Type 0) (ws : List W) (count : ℕ) → length ws ≡ count → (f f' : ℕ → ℕ) (g g' : ℕ → R) → ((j : ℕ) → j < count → f j ≡ f' j) → ((j : ℕ) → j < count → g j ≡ g' j)
    → ((j : ℕ) (w : W) → slice_get ws j ≡ Some w → P w (f j) (g j)) → (j : ℕ) (w : W) → slice_get ws j ≡ Some w → P w (f' j) (g' j)
each_now P ws count long f f' g g' first second each j w e =
    let known : j < count = (let i = inside ws j w e in omega arith) in
    subst (λ v. P w v (g' j)) (first j known) (subst (λ v. P w (f j) v) (second j known) (each j w e))
