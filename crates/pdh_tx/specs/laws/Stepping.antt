-- From one line bit to the next.
use Rattle.std.proofs.Common.{◌≡◌, ◌⊎◌, inl, inr, ℕ, zero, suc, ◌+◌, ◌*◌, ◌/◌, ◌%◌, ◌<◌, ◌≤◌, Bool, true, false, ◌&&◌, cond, eqb, refl, sym, ap, ◌∙◌, arith}
use Rattle.std.proofs.lemmas.Nat.{div-mul-add, mod-mul-add}
use Rattle.std.proofs.lemmas.Bool.{cases_lt, cases_eq, ne_eqb, eq-eqb}
use Rattle.pdh_shape.specs.Frame.{FrameShape, IsFrame}
use Rattle.pdh_shape.specs.Tributary.{HasTributaries}
use Rattle.pdh_shape.specs.declared.place.Path.{Path}
use Rattle.pdh_line.specs.Sending.{HasStores, came_before, taken}
use Rattle.pdh_line.proofs.SendingLaws.{came_before_grows, came_before-next}
use Rattle.pdh_tx.specs.Meaning.{Plan}
use Rattle.pdh_tx.specs.Node.{taken_to}
use Rattle.pdh_tx.specs.Slipping.{read_to}
use Rattle.pdh_tx.specs.laws.Carrying.{frame-by}
use Rattle.pdh_tx.specs.Follows.{Follows}

module _ (s : FrameShape) (n t x : ℕ) (place : n * s.len + t ≡ x) (inside : t < s.len) where
  pub frame_is : x / s.len ≡ n
  frame_is = ap (λ v. v / s.len) (sym place) ∙ div-mul-add n s.len t inside

  pub slot_is : x % s.len ≡ t
  slot_is = ap (λ v. v % s.len) (sym place) ∙ mod-mul-add n s.len t inside

  pub first_is : eqb x 0 ≡ (eqb n 0 && eqb t 0)
  first_is = elim (cases_eq x 0) [
    | inl none ↦
        let slot : t ≡ 0 = omega (arith, place) in
        let whole : n * s.len ≡ 0 = omega (arith, place) in
        eq-eqb x 0 none ∙ sym (ap (λ b. b && eqb t 0) (eq-eqb n 0 (zero_of n whole)) ∙ eq-eqb t 0 slot)
    | inr some ↦ ne_eqb x 0 some ∙ sym (differ (cases_eq n 0) (cases_eq t 0) some)
  ]
    where
      zero_of : (k : ℕ) → k * s.len ≡ 0 → k ≡ 0
      zero_of zero h = refl
      zero_of (suc k) h = (let e : suc k * s.len ≡ k * s.len + s.len = omega arith in absurd (omega (arith, e, h, inside)))

      differ : (n ≡ 0) ⊎ (n ≡ 0 → ⊥) → (t ≡ 0) ⊎ (t ≡ 0 → ⊥) → (x ≡ 0 → ⊥) → (eqb n 0 && eqb t 0) ≡ false
      differ (inr h) q some = ap (λ b. b && eqb t 0) (ne_eqb n 0 h)
      differ (inl h) (inr q) some = ap (λ b. b && eqb t 0) (eq-eqb n 0 h) ∙ ne_eqb t 0 q
      differ (inl h) (inl q) some = absurd (some (sym place ∙ ap (λ v. v * s.len + t) h ∙ omega (arith, q)))

  pub taken_is : (path : Path) (plan : Plan) (j : ℕ) → taken s (plan.counts path j) x ≡ taken_to s path plan n t j
  taken_is path plan j =
      ap (λ b. cond b 0 (came_before s (plan.counts path j) (x / s.len) (x % s.len))) first_is
      ∙ ap (λ v. cond (eqb n 0 && eqb t 0) 0 (came_before s (plan.counts path j) v (x % s.len))) frame_is
      ∙ ap (λ v. cond (eqb n 0 && eqb t 0) 0 (came_before s (plan.counts path j) n v)) slot_is

pub taken_later : (s : FrameShape) (path : Path) (plan : Plan) (n t j : ℕ) → 0 < n + t → taken_to s path plan n t j ≡ came_before s (plan.counts path j) n t
taken_later s path plan n t j some = ap (λ b. cond b 0 (came_before s (plan.counts path j) n t)) (later (cases_eq n 0) (cases_eq t 0))
  where
    later : (n ≡ 0) ⊎ (n ≡ 0 → ⊥) → (t ≡ 0) ⊎ (t ≡ 0 → ⊥) → (eqb n 0 && eqb t 0) ≡ false
    later (inr h) q = ap (λ b. b && eqb t 0) (ne_eqb n 0 h)
    later (inl h) (inr q) = ap (λ b. b && eqb t 0) (eq-eqb n 0 h) ∙ ne_eqb t 0 q
    later (inl h) (inl q) = absurd (omega (arith, some, h, q))

module _ (s : FrameShape) (n t n' t' : ℕ) (follows : Follows s n t n' t') where
  pub came_follows : (path : Path) (plan : Plan) (j : ℕ) → IsFrame s → came_before s (plan.counts path j) n (suc t) ≡ taken_to s path plan n' t' j
  came_follows path plan j frame = elim (cases_lt 0 t') [
    | inl some ↦
        let there = follows.within some in
        sym (taken_later s path plan n' t' j (omega (arith, some)) ∙ ap (λ v. came_before s (plan.counts path j) v t') there.0 ∙ ap (came_before s (plan.counts path j) n) there.1)
    | inr none ↦
        let zero : t' ≡ 0 = omega (arith, none) in
        let there = follows.next zero in
        ap (came_before s (plan.counts path j) n) there.1 ∙ came_before-next s (plan.counts path j) n frame
        ∙ sym (taken_later s path plan n' t' j (omega (arith, there.0)) ∙ ap (λ v. came_before s (plan.counts path j) v t') there.0 ∙ ap (came_before s (plan.counts path j) (suc n)) zero)
  ]

  pub read_follows : (path : Path) (plan : Plan) (j : ℕ) → HasStores s → HasTributaries s → j < s.tribs → read_to s path plan n (suc t) j ≡ read_to s path plan n' t' j
  read_follows path plan j stores has known = elim (cases_lt 0 t') [
    | inl some ↦
        let there = follows.within some in
        sym (ap (λ v. read_to s path plan v t' j) there.0 ∙ ap (λ u. read_to s path plan n u j) there.1)
    | inr none ↦
        let zero : t' ≡ 0 = omega (arith, none) in
        let there = follows.next zero in
        ap (λ u. read_to s path plan n u j) there.1 ∙ frame-by s j (plan.counts path j) plan.mode n stores has known
        ∙ sym (ap (λ v. read_to s path plan v t' j) there.0 ∙ ap (λ u. read_to s path plan (suc n) u j) zero)
  ]

-- what follows each place
pub following : (s : FrameShape) (n t : ℕ) → t < s.len → (n' : ℕ) × (t' : ℕ) × Follows s n t n' t'
following s n t inside = elim (cases_lt (suc t) s.len) [
  | inl more ↦ (n, suc t, record { inside = more; place = omega arith; within = λ h. (refl, refl); next = λ h. absurd (omega (arith, h)) })
  | inr last ↦
      let all : suc t ≡ s.len = omega (arith, last, inside) in
      let e : suc n * s.len ≡ n * s.len + s.len = omega arith in
      (suc n, 0, record { inside = omega (arith, inside); place = omega (arith, e, all); within = λ h. absurd (omega (arith, h)); next = λ h. (refl, all) })
]

pub taken_less : (s : FrameShape) (path : Path) (plan : Plan) (n t j : ℕ) → IsFrame s → taken_to s path plan n t j ≤ came_before s (plan.counts path j) n (suc t)
taken_less s path plan n t j frame = go (eqb n 0 && eqb t 0)
  where
    go : (b : Bool) → cond b 0 (came_before s (plan.counts path j) n t) ≤ came_before s (plan.counts path j) n (suc t)
    go true = omega arith
    go false = came_before_grows s (plan.counts path j) n t frame

-- a longer line takes no fewer bits of a tributary
pub taken_grows : (s : FrameShape) (path : Path) (plan : Plan) (x j : ℕ) → IsFrame s → taken s (plan.counts path j) x ≤ taken s (plan.counts path j) (suc x)
taken_grows s path plan x j frame =
    let n : ℕ = x / s.len in
    let t : ℕ = x % s.len in
    let place : n * s.len + t ≡ x = omega arith in
    let inside : t < s.len = omega (arith, frame.some_slots) in
    let next = following s n t inside in
    let here : taken s (plan.counts path j) x ≡ taken_to s path plan n t j = taken_is s n t x place inside path plan j in
    let there : taken s (plan.counts path j) (suc x) ≡ taken_to s path plan next.0 next.1 j =
    taken_is s next.0 next.1 (suc x) (next.2.place ∙ ap suc place) next.2.inside path plan j in
    omega (arith, here, there, taken_less s path plan n t j frame, came_follows s n t next.0 next.1 next.2 path plan j frame)
