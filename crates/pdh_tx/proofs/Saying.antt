-- What the frame in progress says.
use Rattle.std.proofs.Common.{◌≡◌, inl, inr, ℕ, ◌+◌, ◌*◌, ◌/◌, ◌%◌, ◌<◌, cond, eqb, sym, ap, ◌∙◌, arith, Some, None, eq-eqb}
use Rattle.std.proofs.lemmas.Bool.{ne_eqb, cases_lt}
use Rattle.pdh_shape.specs.declared.role.Service.{Service}
use Rattle.pdh_shape.specs.Frame.{FrameShape}
use Rattle.pdh_tx.specs.Meaning.{Supply}
use Rattle.pdh_tx.specs.laws.Stepping.{frame_is, slot_is}

-- in slot t of frame n, before which x bits are made: what was kept of it, or in its first slot what it begins with
pub says_in : (s : FrameShape) (n t x : ℕ) → n * s.len + t ≡ x → t < s.len → (supply : Supply) (was_said next_say say : Service) → say ≡ cond (eqb t 0) next_say was_said → (0 < t → supply.says n ≡ was_said)
    → ((m : ℕ) → cond (eqb (x % s.len) 0) (Some (x / s.len)) None ≡ Some m → supply.says m ≡ next_say) → supply.says n ≡ say
says_in s n t x place inside supply was_said next_say say is kept begins = elim (cases_lt 0 t) [
  | inl some ↦ kept some ∙ sym (is ∙ ap (λ b. cond b next_say was_said) (ne_eqb t 0 (λ z. absurd (omega (arith, z, some)))))
  | inr none ↦
      let zero : t ≡ 0 = omega (arith, none) in
      begins n (ap (λ v. cond (eqb v 0) (Some (x / s.len)) None) (slot_is s n t x place inside) ∙ ap (λ b. cond b (Some (x / s.len)) None) (eq-eqb t 0 zero) ∙ ap Some (frame_is s n t x place inside))
      ∙ sym (is ∙ ap (λ b. cond b next_say was_said) (eq-eqb t 0 zero))
]
