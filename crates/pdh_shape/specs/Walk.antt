-- A walk over a list that tests each element with a state made of those before it.
use Rattle.std.specs.Prelude.{ℕ, ◌+◌, Bool, ◌&&◌, List, [], ◌∷◌}

-- each element passes the test at its place, with the state of those before it, and the state behind the last one passes
-- the end's test
unfoldable pub walk : {X S : Type 0} → (X → ℕ → S → Bool) → (X → ℕ → S → S) → (S → Bool) → List X → ℕ → S → Bool
walk test next end [] t state = end state
walk test next end (x ∷ xs) t state = test x t state && walk test next end xs (t + 1) (next x t state)
