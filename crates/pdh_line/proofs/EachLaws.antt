-- What holds of each member of a list, by its number.
use Rattle.std.proofs.Common.{◌≡◌, ℕ, zero, suc, List, [], ◌∷◌, ◌++◌, length, Some, None, slice_get, subst}

none_some : {X : Type 0} {x : X} → None ≡ Some x → ⊥
none_some e = cc

-- of none
pub each_none : {X : Type 0} (P : ℕ → X → Type 0) (j : ℕ) (y : X) → slice_get [] j ≡ Some y → P j y
each_none P j y at = absurd (none_some at)

-- and of one more
pub each_push : {X : Type 0} (P : ℕ → X → Type 0) (xs : List X) (x : X) → ((j : ℕ) (y : X) → slice_get xs j ≡ Some y → P j y) → P (length xs) x → (j : ℕ) (y : X) → slice_get (xs ++ x ∷ []) j ≡ Some y → P j y
each_push P [] x each last zero y at = let same : x ≡ y = cc in subst (P 0) same last
each_push P [] x each last (suc j) y at = absurd (none_some at)
each_push P (z ∷ xs) x each last zero y at = each 0 y at
each_push P (z ∷ xs) x each last (suc j) y at = each_push (λ k. P (suc k)) xs x (λ k w h. each (suc k) w h) last j y at
