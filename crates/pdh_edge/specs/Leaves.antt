-- The leaves below the children of a node, each of which tells its own.
use Rattle.std.specs.Prelude.{◌≡◌, ℕ, Bool, true, false, IsTrue, ◌||◌, List, [], ◌∷◌, slice_get, Some}

-- whether a leaf is below one of them
abbrev pub any_below : {X : Type 0} → (X → ℕ → Bool) → List X → ℕ → Bool
any_below leaves [] k = false
any_below leaves (x ∷ xs) k = leaves x k || any_below leaves xs k

-- no leaf is below two of them
abbrev pub NoneShared : {X : Type 0} → (X → ℕ → Bool) → List X → Type 0
NoneShared {X} leaves xs = (i j k : ℕ) (a b : X) → slice_get xs i ≡ Some a → slice_get xs j ≡ Some b → leaves a k ≡ true → leaves b k ≡ true → i ≡ j

-- each of these leaves is one that has a list
abbrev pub HaveLists : (ℕ → Bool) → (ℕ → Bool) → Type 0
HaveLists leaves holds = (k : ℕ) → IsTrue (leaves k) → IsTrue (holds k)
