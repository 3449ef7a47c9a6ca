-- A multiplexer of four leaves.
use Rattle.std.proofs.Common.{◌≡◌, inl, inr, ℕ, ◌<◌, true, List, [], ◌∷◌, refl, slice_index_or, sym, subst, arith}
use Rattle.std.specs.Prelude.{All}
use Rattle.std.proofs.lemmas.Bool.{cases_lt}
use Rattle.std.proofs.lemmas.Bool.Decides.{nat_tests}
use Rattle.pdh_shape.specs.declared.place.Level.{Level}
use Rattle.pdh_shape.specs.declared.place.Path.{Path}
use Rattle.pdh_eframes.specs.Plans.{e2}
use Rattle.pdh_line.specs.Sending.{shape_numbers}
use Rattle.pdh_tx.specs.Meaning.{HasNumbers, IsNodeOf}
use Rattle.pdh_tests_of_chains.specs.FourLeaves.{four_leaves}
use Rattle.pdh_tx.specs.Node.{any_leaf, node_frame, node_meaning}

abbrev pub top : Path
top = record { depth = 0; first = 0; second = 0 }

-- its leaves are those below 4
pub below_four : (k : ℕ) → any_leaf four_leaves k ≡ true → k < 4
below_four k leaf = grind (arith, nat_tests)

-- it is the one node of the chain of one level with its numbers
pub one_node : (levels : List Level) (level : Level) → levels ≡ level ∷ [] → HasNumbers level (shape_numbers e2) → All (IsNodeOf levels) (node_meaning e2 top four_leaves).nodes
one_node levels level is numbers = subst (λ ls. All (IsNodeOf ls) (node_frame e2 top ∷ [])) (sym is) (λ k d h. elim (cases_lt k 1) [
  | inl first ↦
      let zero : k ≡ 0 = omega (arith, first) in
      let own : IsNodeOf (level ∷ []) (node_frame e2 top) = record { level = level; at = refl; numbers = numbers } in
      subst (λ i. IsNodeOf (level ∷ []) (slice_index_or (node_frame e2 top ∷ []) i d)) (sym zero) own
  | inr more ↦ absurd (omega (arith, more, h))
])
