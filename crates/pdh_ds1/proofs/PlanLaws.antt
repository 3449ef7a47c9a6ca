-- Where a slot stands in a superframe.
use Rattle.std.proofs.Common.{ℕ, zero, suc, ◌*◌, ◌/◌, ◌<◌, ◌≤◌, subst, arith}
use Rattle.std.proofs.lemmas.Nat.{div_below}
use Rattle.pdh_ds1.specs.declared.plan.SuperframePlan.{SuperframePlan}
use Rattle.pdh_ds1.specs.Superframe.{IsSuperframePlan}

pub frame_below : (plan : SuperframePlan) (slot : ℕ) → IsSuperframePlan plan → slot < plan.len → slot / 193 < plan.frames
frame_below plan slot fits h = omega (arith, fits.whole, h)

pub frames_few : (plan : SuperframePlan) → IsSuperframePlan plan → plan.frames ≤ 24
frames_few plan fits = fits.few

-- the framing slots stand some slots apart
pub framing_apart : (plan : SuperframePlan) (slot : ℕ) → IsSuperframePlan plan → slot < plan.len → 0 < plan.len / plan.loss.framing
framing_apart plan slot fits h = some (plan.len / plan.loss.framing) (subst (λ n. slot < n) fits.even.1 h)
  where
    some : (n : ℕ) → slot < plan.loss.framing * n → 0 < n
    some zero h' = absurd (omega (arith, h'))
    some (suc n) h' = omega arith

pub framing_below : (plan : SuperframePlan) (slot : ℕ) → IsSuperframePlan plan → slot < plan.len → slot / (plan.len / plan.loss.framing) < plan.loss.framing
framing_below plan slot fits h =
    div_below slot (plan.len / plan.loss.framing) plan.loss.framing (framing_apart plan slot fits h) (subst (λ n. slot < n) fits.even.1 h)
