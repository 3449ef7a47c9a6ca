-- Where a slot stands in a frame of blocks.
use Rattle.std.proofs.Common.{ℕ, zero, suc, ◌*◌, ◌/◌, ◌%◌, ◌<◌, subst, arith}
use Rattle.std.proofs.lemmas.Nat.{div_below}
use Rattle.std.proofs.Math.Nat.{mod-lt}
use Rattle.pdh_ds.specs.declared.block_plan.BlockPlan.{BlockPlan}
use Rattle.pdh_ds.specs.Blocks.{IsBlockPlan}

pub subframe_below : (plan : BlockPlan) (slot : ℕ) → IsBlockPlan plan → slot < plan.len → slot / plan.subframe < plan.tribs
subframe_below plan slot fits h = div_below slot plan.subframe plan.tribs fits.some.0 (subst (λ n. slot < n) fits.whole h)

pub block_below : (plan : BlockPlan) (slot : ℕ) → IsBlockPlan plan → slot % plan.subframe / plan.block < plan.blocks
block_below plan slot fits =
    div_below (slot % plan.subframe) plan.block plan.blocks fits.some.1 (subst (λ n. slot % plan.subframe < n) fits.blocks (mod-lt slot fits.some.0))

-- the framing slots stand some slots apart
pub framing_apart : (plan : BlockPlan) (slot : ℕ) → IsBlockPlan plan → slot < plan.len → 0 < plan.len / plan.loss.framing
framing_apart plan slot fits h = some (plan.len / plan.loss.framing) (subst (λ n. slot < n) fits.even.1 h)
  where
    some : (n : ℕ) → slot < plan.loss.framing * n → 0 < n
    some zero h' = absurd (omega (arith, h'))
    some (suc n) h' = omega arith

pub framing_below : (plan : BlockPlan) (slot : ℕ) → IsBlockPlan plan → slot < plan.len → slot / (plan.len / plan.loss.framing) < plan.loss.framing
framing_below plan slot fits h =
    div_below slot (plan.len / plan.loss.framing) plan.loss.framing (framing_apart plan slot fits h) (subst (λ n. slot < n) fits.even.1 h)
