-- One position more that a search passes over, against a frame's length.
use Rattle.std.proofs.Common.{◌≡◌, ◌⊎◌, inl, inr, ℕ, suc, ◌+◌, ◌*◌, ◌/◌, ◌%◌, ◌<◌, cond, ◌∙◌, ap, arith}
use Rattle.std.proofs.lemmas.Bool.{cases_eq, eq-eqb, ne_eqb}
use Rattle.std.proofs.lemmas.Nat.{div-mul-add, mod-mul-add}
use Rattle.std.proofs.Math.Nat.{suc-mul}
use Rattle.pdh_shape.specs.Frame.{FrameShape, IsFrame}
use Rattle.pdh_align.specs.declared.step.Step.TheVariants.{Rejected}
use Rattle.pdh_rx.specs.Node.{gap_after}

-- it completes a frame's length, or a part of one is left
pub gap_step : (s : FrameShape) (n gap : ℕ) → IsFrame s → gap ≡ n % s.len
    → ((gap_after s Rejected gap ≡ 0) × (suc n / s.len ≡ suc (n / s.len)) × (suc n % s.len ≡ 0)) ⊎ ((gap_after s Rejected gap ≡ suc gap) × (suc n / s.len ≡ n / s.len) × (suc n % s.len ≡ suc gap))
gap_step s n gap shape is =
    let q : ℕ = n / s.len in
    let place : q * s.len + gap ≡ n = (let whole : n / s.len * s.len + n % s.len ≡ n = omega arith in ap (λ v. q * s.len + v) is ∙ whole) in
    let inside : gap < s.len = omega (arith, is, shape.some_slots) in
    elim (cases_eq (suc gap) s.len) [
      | inl last ↦
          let next : suc n ≡ suc q * s.len + 0 = omega (arith, place, last, suc-mul q s.len) in
          inl (
            ap (λ b. cond b 0 (suc gap)) (eq-eqb (suc gap) s.len last),
            ap (λ v. v / s.len) next ∙ div-mul-add (suc q) s.len 0 shape.some_slots,
            ap (λ v. v % s.len) next ∙ mod-mul-add (suc q) s.len 0 shape.some_slots,
          )
      | inr more ↦
          let next : suc n ≡ q * s.len + suc gap = omega (arith, place) in
          let part : suc gap < s.len = within gap s.len inside more in
          inr (ap (λ b. cond b 0 (suc gap)) (ne_eqb (suc gap) s.len more), ap (λ v. v / s.len) next ∙ div-mul-add q s.len (suc gap) part, ap (λ v. v % s.len) next ∙ mod-mul-add q s.len (suc gap) part)
    ]
  where
    within : (a b : ℕ) → a < b → (suc a ≡ b → ⊥) → suc a < b
    within a b lt ne = elim (cases_eq (suc a) b) [
      | inl e ↦ absurd (ne e)
      | inr ne' ↦ omega (arith, lt, ne')
    ]
