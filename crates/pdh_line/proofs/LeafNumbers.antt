-- The numbers of leaves: below which tributary of a node a leaf stands, and which leaf it is there.
use Rattle.std.proofs.Common.{◌≡◌, ℕ, zero, suc, ◌+◌, ◌*◌, ◌/◌, ◌%◌, ◌<◌, ap, ◌∙◌, arith}
use Rattle.std.proofs.lemmas.Nat.{div_below, mod_below, div-add-mod', div-mul-add}

-- where a leaf stands below a node, some leaf stands below each of its tributaries
pub leaf-some : (tribs w k : ℕ) → k < tribs * w → 0 < w
leaf-some tribs zero k h = absurd (let none : tribs * 0 ≡ 0 = omega arith in omega arith)
leaf-some tribs (suc w) k h = omega arith

-- the tributary below which the leaf stands,
pub leaf-tributary : (tribs w k : ℕ) → k < tribs * w → k / w < tribs
leaf-tributary tribs w k h = div_below k w tribs (leaf-some tribs w k h) h

-- and its number there
pub leaf-below : (tribs w k : ℕ) → k < tribs * w → k % w < w
leaf-below tribs w k h = mod_below k w (leaf-some tribs w k h)

pub leaf-number : (first w k : ℕ) → first + k / w * w + k % w ≡ first + k
leaf-number first w k = let whole : k / w * w + k % w ≡ k = div-add-mod' k w in omega arith

-- below the last node its tributaries are the leaves
pub div-one : (k : ℕ) → k / 1 ≡ k
div-one k =
    let e : k ≡ k * 1 + 0 = omega arith in
    ap (λ n. n / 1) e ∙ div-mul-add k 1 0 (omega arith)
