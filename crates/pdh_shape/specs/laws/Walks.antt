-- What a walk over a list tested.
use Rattle.std.proofs.Common.{◌≡◌, ℕ, zero, suc, ◌+◌, ◌<◌, ◌≤◌, Bool, true, List, map, ap, ◌∙◌, subst, inl, inr, arith}
use Rattle.std.specs.List.{range_with_len}
use Rattle.std.proofs.lemmas.Bool.{cases_lt}
use Rattle.pdh_shape.specs.laws.Ranges.{and_true}
use Rattle.pdh_shape.specs.Walk.{walk}

-- what a walk tested at a place
pub walk-at : {X S : Type 0} (test : X → ℕ → S → Bool) (next : X → ℕ → S → S) (end : S → Bool) (f : ℕ → X) (before : ℕ → S) → ((k : ℕ) → before (k + 1) ≡ next (f k) k (before k))
    → (left t u : ℕ) → walk test next end (map f (range_with_len t left)) t (before t) ≡ true → t ≤ u → u < t + left → test (f u) u (before u) ≡ true
unfolding walk
walk-at test next end f before steps zero t u holds h h' = absurd (omega arith)
walk-at test next end f before steps (suc left) t u holds h h' =
    let rest : List _ = map f (range_with_len (t + 1) left) in
    let parts = and_true (test (f t) t (before t)) (walk test next end rest (t + 1) (next (f t) t (before t))) holds in
    elim (cases_lt t u) [
      | inl later ↦ walk-at test next end f before steps left (t + 1) u (ap (walk test next end rest (t + 1)) (steps t) ∙ parts.1) (omega arith) (omega arith)
      | inr here ↦
          let e : t ≡ u = omega arith in
          subst (λ u. test (f u) u (before u) ≡ true) e parts.0
    ]

-- what it tested at the end
pub walk-end : {X S : Type 0} (test : X → ℕ → S → Bool) (next : X → ℕ → S → S) (end : S → Bool) (f : ℕ → X) (before : ℕ → S) → ((k : ℕ) → before (k + 1) ≡ next (f k) k (before k))
    → (left t u : ℕ) → walk test next end (map f (range_with_len t left)) t (before t) ≡ true → t + left ≡ u → end (before u) ≡ true
unfolding walk
walk-end test next end f before steps zero t u holds e =
    let here : t ≡ u = omega arith in
    subst (λ u. end (before u) ≡ true) here holds
walk-end test next end f before steps (suc left) t u holds e =
    let rest : List _ = map f (range_with_len (t + 1) left) in
    let parts = and_true (test (f t) t (before t)) (walk test next end rest (t + 1) (next (f t) t (before t))) holds in
    walk-end test next end f before steps left (t + 1) u (ap (walk test next end rest (t + 1)) (steps t) ∙ parts.1) (omega arith)
