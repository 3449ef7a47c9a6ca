-- The numbers of the leaves below a node, and the paths of the nodes below it.
use Rattle.std.proofs.Common.{◌≡◌, ℕ, zero, suc, ◌+◌, ◌*◌, ◌<◌, ◌≤◌, List, [], ◌∷◌, ◌++◌, length, map, refl, sym, ap, ◌∙◌, inl, inr, arith, Some, slice_get}
use Rattle.std.specs.List.{range_with_len}
use Rattle.std.proofs.Math.Nat.{mul-le-mul_right}
use Rattle.std.proofs.lemmas.Bool.{cases_lt}
use Rattle.std.proofs.lemmas.List.{map-append}
use Rattle.pdh_line.proofs.Ranges.{range_push}
use Rattle.pdh_shape.specs.declared.place.Path.{Path}
use Rattle.pdh_shape.specs.Frame.{FrameShape}
use Rattle.pdh_line.specs.Nodes.{child}
use Rattle.pdh_line.specs.Paths.{steps_of, path_of}
use Rattle.pdh_events.specs.Chain.{child_path}

-- ---- a list that is made of numbers

-- what stands at a place of it
pub found_at : {X : Type 0} (f : ℕ → X) (a n i : ℕ) (x : X) → slice_get (map f (range_with_len a n)) i ≡ Some x → (i < n) × (x ≡ f (a + i))
found_at f a zero i x found = absurd (cc)
found_at f a (suc n) zero x found = let same : f a ≡ x = cc in (omega arith, sym same ∙ ap f (omega arith))
found_at f a (suc n) (suc i) x found = let rest = found_at f (a + 1) n i x found in (omega (arith, rest.0), rest.1 ∙ ap f (omega arith))

pub stands_at : {X : Type 0} (f : ℕ → X) (a n i : ℕ) → i < n → slice_get (map f (range_with_len a n)) i ≡ Some (f (a + i))
stands_at f a zero i h = absurd (omega arith)
stands_at f a (suc n) zero h = ap (λ k. Some (f k)) (omega arith)
stands_at f a (suc n) (suc i) h = stands_at f (a + 1) n i (omega arith) ∙ ap (λ k. Some (f k)) (omega arith)

-- one number more
pub one_more : {X : Type 0} (f : ℕ → X) (n : ℕ) → map f (range_with_len 0 (n + 1)) ≡ map f (range_with_len 0 n) ++ f n ∷ []
one_more f n =
    let more : n + 1 ≡ suc n = omega arith in
    let last : 0 + n ≡ n = omega arith in
    ap (λ k. map f (range_with_len 0 k)) more ∙ ap (map f) (range_push 0 n) ∙ map-append f (range_with_len 0 n) ((0 + n) ∷ []) ∙ ap (λ k. map f (range_with_len 0 n) ++ f k ∷ []) last

-- ---- leaves

-- the leaves below a tributary are among those below its node
pub below_node : (first w tribs j : ℕ) → j < tribs → first + j * w + w ≤ first + tribs * w
below_node first w tribs j h =
    let most : suc j * w ≤ tribs * w = mul-le-mul_right w h in
    let e : suc j * w ≡ j * w + w = omega arith in
    omega arith

-- those below an earlier tributary have lower numbers
pub earlier : (first w i j : ℕ) → i < j → first + i * w + w ≤ first + j * w
earlier first w i j h =
    let most : suc i * w ≤ j * w = mul-le-mul_right w h in
    let e : suc i * w ≡ i * w + w = omega arith in
    omega arith

-- no leaf is below two of them
pub apart : (first w i j k : ℕ) → first + i * w ≤ k → k < first + i * w + w → first + j * w ≤ k → k < first + j * w + w → i ≡ j
apart first w i j k l h l' h' = elim (cases_lt i j) [
  | inl less ↦ absurd (omega (arith, earlier first w i j less))
  | inr some ↦ elim (cases_lt j i) [
    | inl more ↦ absurd (omega (arith, earlier first w j i more))
    | inr none ↦ omega arith
  ]
]

-- ---- paths

steps_by : (depth first second j : ℕ) → depth ≤ 1
    → steps_of (child_path (record { depth = depth; first = first; second = second }) j) ≡ steps_of (record { depth = depth; first = first; second = second }) ++ (j + 1) ∷ []
steps_by zero first second j h = ap (λ n. n ∷ []) (omega arith)
steps_by (suc zero) first second j h = ap (λ n. first ∷ n ∷ []) (omega arith)
steps_by (suc (suc depth)) first second j h = absurd (omega arith)

-- the steps to a node's tributary
pub child_steps : (path : Path) (j : ℕ) → path.depth ≤ 1 → steps_of (child_path path j) ≡ steps_of path ++ (j + 1) ∷ []
child_steps path j h = steps_by path.depth path.first path.second j h

depth_by : (depth first second j levels : ℕ) → depth + suc levels ≤ 3 → (child_path (record { depth = depth; first = first; second = second }) j).depth + levels ≤ 3
depth_by zero first second j levels h = omega arith
depth_by (suc zero) first second j levels h = omega arith
depth_by (suc (suc zero)) first second j levels h = omega arith
depth_by (suc (suc (suc depth))) first second j levels h = absurd (omega arith)

-- the levels below a tributary are no more than there may be
pub child_depth : (path : Path) (j levels : ℕ) → path.depth + suc levels ≤ 3 → (child_path path j).depth + levels ≤ 3
child_depth path j levels h = depth_by path.depth path.first path.second j levels h

canon_by : (depth first second j : ℕ) → depth ≤ 1
    → child_path (record { depth = depth; first = first; second = second }) j ≡ path_of (steps_of (record { depth = depth; first = first; second = second }) ++ suc j ∷ [])
canon_by zero first second j h = refl
canon_by (suc zero) first second j h = refl
canon_by (suc (suc depth)) first second j h = absurd (omega arith)

-- a chain's node stands at this path, to which these steps lead, and there are no more levels from there on than there may be;
-- a leaf stands anywhere
abbrev pub IsAt : List FrameShape → Path → List ℕ → Type 0
IsAt [] path steps = Unit {0}
IsAt (s ∷ below) path steps = (steps_of path ≡ steps) × (path ≡ path_of steps) × (path.depth + suc (length below) ≤ 3)

-- so does each of its tributaries
pub child_at : (s : FrameShape) (below : List FrameShape) (path : Path) (steps : List ℕ) (j : ℕ) → IsAt (s ∷ below) path steps → IsAt below (child_path path j) (child steps j)
child_at s [] path steps j at = tt
child_at s (t ∷ below) path steps j at =
    let shallow : path.depth ≤ 1 = omega (arith, at.2) in
    let next : j + 1 ≡ suc j = omega arith in (
      child_steps path j shallow ∙ ap (λ st. st ++ (j + 1) ∷ []) at.0 ∙ ap (λ k. steps ++ k ∷ []) next,
      canon_by path.depth path.first path.second j shallow ∙ ap (λ st. path_of (st ++ suc j ∷ [])) at.0,
      child_depth path j (suc (length below)) at.2,
    )
