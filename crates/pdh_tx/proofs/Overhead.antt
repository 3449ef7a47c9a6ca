-- The bits of the slots of a piece that are no payload slots.
use Rattle.std.proofs.Common.{◌≡◌, inl, inr, ℕ, zero, suc, ◌+◌, ◌-◌, ◌<◌, ◌≤◌, Bool, true, false, not, cond, List, [], ◌∷◌, ◌++◌, length, get_or, refl, sym, ap, ◌∙◌, arith, add-one}
use Rattle.std.proofs.lemmas.Bool.{cases_lt}
use Rattle.std.proofs.lemmas.List.{get_or_append_left, get_or_at, get_or-map, length-append, length-map}
use Rattle.pdh_shape.specs.declared.role.Role.{Role}
use Rattle.pdh_shape.specs.declared.role.Service.{Service}
use Rattle.pdh_shape.specs.Frame.{FrameShape}
use Rattle.pdh_shape.specs.Payload.{is_payload, payload_before}
use Rattle.pdh_runs.specs.Pieces.{overhead_before}
use Rattle.pdh_runs.specs.Tables.{is_overhead, AreOverheadRoles}
use Rattle.pdh_runs.proofs.Counts.{before, picked, before_next, before_grows, before_less, before_most, length-picked, picked_next}
use Rattle.pdh_tx.specs.declared.tributary.FrameShare.{FrameShare}
use Rattle.pdh_tx.specs.Node.{overhead_bit}
use Rattle.pdh_tx.specs.Passing.{HoldsOverhead}

-- ---- the numbers below a bound that pass a test

module _ (p : ℕ → Bool) where
  -- with one more
  picked_push : (n : ℕ) → picked p (suc n) ≡ picked p n ++ cond (p n) (n ∷ []) []
  picked_push n = ap (picked p) (sym (add-one n)) ∙ picked_next p n

  -- as many of them stand before one as pass below it
  pub picked_at : (n x d : ℕ) → x < n → p x ≡ true → get_or (picked p n) (before p x) d ≡ x
  picked_at zero x d within pass = absurd (omega (arith, within))
  picked_at (suc n) x d within pass = elim (cases_lt x n) [
    | inl less ↦
        let front : before p x < length (picked p n) = omega (arith, length-picked p n, before_less p x n pass less) in
        ap (λ l. get_or l (before p x) d) (picked_push n) ∙ get_or_append_left (picked p n) (cond (p n) (n ∷ []) []) d (before p x) front ∙ picked_at n x d less pass
    | inr last ↦
        let same : n ≡ x = omega (arith, last, within) in
        let here : p n ≡ true = ap p same ∙ pass in
        ap (λ l. get_or l (before p x) d) (picked_push n ∙ ap (λ b. picked p n ++ cond b (n ∷ []) []) here)
        ∙ get_or_at (picked p n) n [] d (before p x) (length-picked p n ∙ ap (before p) same) ∙ same
  ]

-- ---- the slots that are no payload slots

-- so many stand before a slot
pub overhead_count : (s : FrameShape) (t : ℕ) → before (is_overhead s) t ≡ overhead_before s t
overhead_count s zero = refl
overhead_count s (suc t) = go (is_payload (s.role t)) (before_next (is_overhead s) t) (before_next (λ slot. is_payload (s.role slot)) t) (overhead_count s t)
  where
    step : suc t ≡ t + 1
    step = sym (add-one t)

    go : (b : Bool) → before (is_overhead s) (t + 1) ≡ before (is_overhead s) t + cond (not b) 1 0 → payload_before s (t + 1) ≡ payload_before s t + cond b 1 0 → before (is_overhead s) t ≡ overhead_before s t → before (is_overhead s) (suc t) ≡ overhead_before s (suc t)
    go true over payload so_far = ap (before (is_overhead s)) step ∙ omega (arith, over, payload, so_far, before_most (λ slot. is_payload (s.role slot)) t) ∙ ap (overhead_before s) (sym step)
    go false over payload so_far = ap (before (is_overhead s)) step ∙ omega (arith, over, payload, so_far, before_most (λ slot. is_payload (s.role slot)) t) ∙ ap (overhead_before s) (sym step)

pub overhead_grows : (s : FrameShape) (t u : ℕ) → t ≤ u → overhead_before s t ≤ overhead_before s u
overhead_grows s t u h = omega (arith, overhead_count s t, overhead_count s u, before_grows (is_overhead s) t u h)

-- role number i of theirs is that of slot number i of them
pub overhead_role : (s : FrameShape) (roles : List Role) (i : ℕ) (d : Role) → AreOverheadRoles s roles → i < overhead_before s s.len → (i < length roles) × (get_or roles i d ≡ s.role (get_or (picked (is_overhead s) s.len) i 0))
overhead_role s roles i d are h =
    let within : i < length (picked (is_overhead s) s.len) = omega (arith, h, overhead_count s s.len, length-picked (is_overhead s) s.len) in
    (omega (arith, within, ap length are, length-map (picked (is_overhead s) s.len) s.role), ap (λ l. get_or l i d) are ∙ get_or-map s.role (picked (is_overhead s) s.len) i 0 d within)

-- bits that are so many of a sequence, and the next
pub pushed_next : (f : ℕ → Bool) (from : ℕ) (bits now : List Bool) (bit : Bool) → now ≡ bits ++ bit ∷ [] → bit ≡ f (from + length bits) → ((i : ℕ) → i < length bits → get_or bits i false ≡ f (from + i)) → (i : ℕ) → i < length now → get_or now i false ≡ f (from + i)
pushed_next f from bits now bit is next each i h = elim (cases_lt i (length bits)) [
  | inl less ↦ ap (λ l. get_or l i false) is ∙ get_or_append_left bits (bit ∷ []) false i less ∙ each i less
  | inr last ↦
      let here : i ≡ length bits = omega (arith, last, h, ap length is, length-append bits (bit ∷ [])) in
      ap (λ l. get_or l i false) is ∙ get_or_at bits bit [] false i (sym here) ∙ next ∙ ap (λ k. f (from + k)) (sym here)
]

-- bits in the order of their slots are the slots' bits
pub overhead_holds : (s : FrameShape) (say : Service) (odd : Bool) (shares : List FrameShare) (first len : ℕ) (bits : List Bool) → first + len ≤ s.len → overhead_before s (first + len) ≡ overhead_before s first + length bits
    → ((i : ℕ) → i < length bits → get_or bits i false ≡ overhead_bit s say odd shares (s.role (get_or (picked (is_overhead s) s.len) (overhead_before s first + i) 0))) → HoldsOverhead s say odd shares first len bits
overhead_holds s say odd shares first len bits most count each v within none =
    let p : ℕ → Bool = is_overhead s in
    let x : ℕ = first + v in
    let pass : p x ≡ true = ap not none in
    let i : ℕ = overhead_before s x - overhead_before s first in
    let less = before_less p x (first + len) pass (omega (arith, within)) in
    let start = overhead_grows s first x (omega arith) in
    let here : overhead_before s first + i ≡ before p x = omega (arith, overhead_count s x, start) in
    each i (omega (arith, count, less, overhead_count s x, overhead_count s (first + len), start))
    ∙ ap (λ k. overhead_bit s say odd shares (s.role (get_or (picked p s.len) k 0))) here ∙ ap (λ t. overhead_bit s say odd shares (s.role t)) (picked_at p s.len x 0 (omega (arith, within, most)) pass)
