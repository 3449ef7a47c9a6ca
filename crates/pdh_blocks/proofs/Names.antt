-- Names among names.
use Rattle.std.proofs.Common.{◌≡◌, ◌⊎◌, ℕ, zero, suc, List, [], ◌∷◌, length, map, get_or, drop, Some, slice_get, inl, inr, refl, sym, ap, ◌∙◌, arith, ◌+◌}
use Rattle.std.proofs.lemmas.Bool.{cases_eq}
use Rattle.std.proofs.lemmas.Option.{none-some, same_Some}
use Rattle.std.proofs.lemmas.List.{length-map}
use Rattle.pdh_blocks.specs.Leaves.{Leaf}
use Rattle.pdh_blocks.specs.State.{PortState, leaf_name, output_names, names}
use Rattle.pdh_blocks.proofs.Places.{get_right, get_left, get_mapped}

pub same_name : (xs ys : List ℕ) → (xs ≡ ys) ⊎ (xs ≡ ys → ⊥)
same_name [] [] = inl refl
same_name [] (y ∷ ys) = inr (λ same. omega (arith, ap length same))
same_name (x ∷ xs) [] = inr (λ same. omega (arith, ap length same))
same_name (x ∷ xs) (y ∷ ys) = elim (cases_eq x y) [
  | inl first ↦ elim (same_name xs ys) [
    | inl rest ↦ inl (ap (λ v. v ∷ xs) first ∙ ap (λ v. y ∷ v) rest)
    | inr differ ↦ inr (λ same. differ (ap (drop 1) same))
  ]
  | inr differ ↦ inr (λ same. differ (ap (λ v. get_or v 0 0) same))
]

not_later : (first : List ℕ) (names : List (List ℕ)) (name : List ℕ) → (first ≡ name → ⊥) → (((k : ℕ) × (slice_get names k ≡ Some name)) → ⊥) → (k : ℕ) → slice_get (first ∷ names) k ≡ Some name → ⊥
not_later first names name differ none zero at = differ (same_Some first name at)
not_later first names name differ none (suc k) at = none (k, at)

-- whether a name is among names
pub find_name : (names : List (List ℕ)) (name : List ℕ) → ((k : ℕ) × (slice_get names k ≡ Some name)) ⊎ (((k : ℕ) × (slice_get names k ≡ Some name)) → ⊥)
find_name [] name = inr (λ found. none-some name found.1)
find_name (first ∷ names) name = elim (same_name first name) [
  | inl same ↦ inl (0, ap Some same)
  | inr differ ↦ elim (find_name names name) [
    | inl found ↦ inl (suc found.0, found.1)
    | inr none ↦ inr (λ found. not_later first names name differ none found.0 found.1)
  ]
]

-- ---- the names of a port

module _ (port : PortState) where
  -- those of its outputs stand behind those of its sources
  pub output_at : (k : ℕ) → slice_get (names port) (length port.leaves + k) ≡ slice_get (output_names port) k
  output_at k = ap (λ n. slice_get (names port) (n + k)) (sym (length-map port.leaves leaf_name)) ∙ get_right (map leaf_name port.leaves) (output_names port) k

  pub source_at : (k : ℕ) (leaf : Leaf) → slice_get port.leaves k ≡ Some leaf → slice_get (names port) k ≡ Some leaf.name
  source_at k leaf at = get_left (map leaf_name port.leaves) (output_names port) k leaf.name (get_mapped leaf_name port.leaves k leaf at)
