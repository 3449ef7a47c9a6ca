-- Counts that never fall.
use Rattle.std.specs.Prelude.{◌≡◌, ℕ, zero, suc, ◌≤◌, Bool, true, false, cond, List, [], ◌∷◌, map}
use Rattle.std.proofs.Common.{arith, inl, inr}
use Rattle.std.proofs.lemmas.Bool.{cases_eq}
use Rattle.pdh_tx.specs.Meaning.{Plan, Meaning}
use Rattle.pdh_tx.specs.Node.{given_by}

-- a count that never falls
pub grows_to : (f : ℕ → ℕ) (x y : ℕ) → ((n : ℕ) → f n ≤ f (suc n)) → x ≤ y → f x ≤ f y
grows_to f x zero step h = (let e : x ≡ 0 = omega arith in rw e (omega arith))
grows_to f x (suc y) step h = elim (cases_eq x (suc y)) [
  | inl same ↦ rw same (omega arith)
  | inr less ↦ let before = grows_to f x y step (omega arith) in let last = step y in omega arith
]

-- more bits of the children take no fewer of the leaves
pub given_more : {W : Type 0} (meaning : W → Meaning) (plan : Plan) (ws : List W) (made made' : ℕ → ℕ) (k : ℕ) → ((w : W) (n k : ℕ) → (meaning w).given plan n k ≤ (meaning w).given plan (suc n) k)
    → ((j : ℕ) → made j ≤ made' j) → given_by (map meaning ws) plan made k ≤ given_by (map meaning ws) plan made' k
given_more meaning plan [] made made' k grows h = omega arith
given_more meaning plan (w ∷ ws) made made' k grows h =
    go ((meaning w).leaves k) (grows_to (λ n. (meaning w).given plan n k) (made 0) (made' 0) (λ n. grows w n k) (h 0)) (given_more meaning plan ws (λ j. made (suc j)) (λ j. made' (suc j)) k grows (λ j. h (suc j)))
  where
    go : (b : Bool) → (meaning w).given plan (made 0) k ≤ (meaning w).given plan (made' 0) k → given_by (map meaning ws) plan (λ j. made (suc j)) k ≤ given_by (map meaning ws) plan (λ j. made' (suc j)) k
        → cond b ((meaning w).given plan (made 0) k) (given_by (map meaning ws) plan (λ j. made (suc j)) k) ≤ cond b ((meaning w).given plan (made' 0) k) (given_by (map meaning ws) plan (λ j. made' (suc j)) k)
    go true f r = f
    go false f r = r
