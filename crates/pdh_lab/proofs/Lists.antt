-- Lists that grow at their end.
use Rattle.std.proofs.Common.{◌≡◌, ℕ, ◌+◌, ◌<◌, List, [], ◌∷◌, ◌++◌, length, get_or, ap, sym, ◌∙◌, subst, inl, inr, arith}
use Rattle.std.proofs.lemmas.Bool.{cases_lt}
use Rattle.std.proofs.lemmas.List.{get_or_append_left, get_or-append-add}

-- what holds of each element of a list and of one more holds of each element of the longer list
pub each_pushed : {X : Type 0} (P : ℕ → X → Type 0) (xs ys : List X) (x : X) (n : ℕ) → ys ≡ xs ++ x ∷ [] → length xs ≡ n →
    ((k : ℕ) (d : X) → k < n → P k (get_or xs k d)) → P n x → (k : ℕ) (d : X) → k < n + 1 → P k (get_or ys k d)
each_pushed P xs ys x n e long each last k d h = subst (λ l. P k (get_or l k d)) (sym e) (elim (cases_lt k n) [
  | inl lt ↦ subst (P k) (sym (get_or_append_left xs (x ∷ []) d k (omega arith))) (each k d lt)
  | inr ge ↦
      let at : k ≡ length xs + 0 = omega arith in
      let here : get_or (xs ++ x ∷ []) k d ≡ x = ap (λ i. get_or (xs ++ x ∷ []) i d) at ∙ get_or-append-add xs (x ∷ []) 0 d in
      let same : k ≡ n = omega arith in
      subst (P k) (sym here) (subst (λ i. P i x) (sym same) last)
])
