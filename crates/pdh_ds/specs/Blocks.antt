-- Frames of subframes of blocks, as ANSI T1.107 has them for DS2 and DS3.
use Rattle.std.specs.Prelude.{◌≡◌, ◌<◌, ◌≤◌, ℕ, ◌-◌, ◌*◌, ◌/◌, ◌%◌, Bool, ◌==◌, ◌&&◌, if◌then◌else◌, List}
use Rattle.std.specs.List.{slice_index_or}
use Rattle.pdh_shape.specs.declared.role.Role.{Role}
use Rattle.pdh_shape.specs.declared.role.Role.TheVariants.{Just, Info, Service as ServiceSlot}
use Rattle.pdh_shape.specs.declared.role.Mark.{Mark}
use Rattle.pdh_shape.specs.declared.role.Mark.TheVariants.{Framing, Multi, Other}
use Rattle.pdh_shape.specs.declared.role.Service.{Service}
use Rattle.pdh_shape.specs.declared.role.Duty.{Duty}
use Rattle.pdh_shape.specs.Frame.{FrameShape, is_align}
use Rattle.pdh_ds.specs.declared.block_plan.BlockPlan.{BlockPlan}
use Rattle.pdh_ds.specs.declared.block_plan.BlockPlace.{BlockPlace}
use Rattle.pdh_ds.specs.Loss.{IsLossRule, loses}

-- the overhead slot of a block, where these are those of each subframe in order
abbrev pub overhead_at : (ℕ → List Role) → ℕ → ℕ → Role
overhead_at overhead subframe block = slice_index_or (overhead subframe) block (ServiceSlot 0)

-- where a slot stands: its subframe, its block in the subframe, and its place in the block
abbrev pub place_at : BlockPlan → ℕ → BlockPlace
place_at plan slot = record { subframe = slot / plan.subframe; block = slot % plan.subframe / plan.block; index = slot % plan.block }

-- The information slots of a block carry the tributaries in turn. In the last block of a subframe the slot of the
-- subframe's number is the justifiable slot of its tributary.
abbrev pub info_at : BlockPlan → BlockPlace → Role
info_at plan place =
    (if place.block == plan.blocks - 1 && place.index - 1 == place.subframe then Just place.subframe else Info ((place.index - 1) % plan.tribs))

-- each block begins with its overhead slot
abbrev pub role_at : BlockPlan → (ℕ → List Role) → BlockPlace → Role
role_at plan overhead place = (if place.index == 0 then overhead_at overhead place.subframe place.block else info_at plan place)

unfoldable pub block_role : BlockPlan → (ℕ → List Role) → ℕ → Role
block_role plan overhead slot = role_at plan overhead (place_at plan slot)

-- an alignment slot that begins a subframe is a multiframe slot; the others are framing slots, spread evenly over the frame
abbrev pub align_mark : BlockPlan → ℕ → Mark
align_mark plan slot = (if slot % plan.subframe == 0 then Multi else Framing (slot / (plan.len / plan.loss.framing)))

unfoldable pub block_mark : BlockPlan → (ℕ → List Role) → ℕ → Mark
block_mark plan overhead slot = (if is_align (block_role plan overhead slot) then align_mark plan slot else Other)

-- the frame with these numbers, overhead slots, inverted tributaries and service bits
abbrev pub in_blocks : BlockPlan → (ℕ → List Role) → (ℕ → Bool) → (ℕ → Duty) → (ℕ → Service → Bool → Bool) → FrameShape
in_blocks plan overhead inverted duty service = record {
  len = plan.len;
  tribs = plan.tribs;
  copies = plan.copies;
  low = plan.low;
  signal = 0;
  role = block_role plan overhead;
  mark = block_mark plan overhead;
  inverted = inverted;
  duty = duty;
  service = service;
  loses = λ a b c d. loses plan.loss b c d;
}

-- the numbers of a frame in blocks fit together
pub record IsBlockPlan (plan : BlockPlan) : Type 0 where
  -- a frame is a subframe for each tributary,
  pub whole : plan.len ≡ plan.tribs * plan.subframe
  -- a subframe its blocks,
  pub blocks : plan.subframe ≡ plan.blocks * plan.block
  -- and both have some slots,
  pub some : (0 < plan.subframe) × (0 < plan.block)
  -- but their numbers are no more than a byte
  pub few : (plan.tribs ≤ 256) × (plan.blocks ≤ 256)
  -- each framing slot has an equal part of the frame
  pub even : (0 < plan.loss.framing) × (plan.len ≡ plan.loss.framing * (plan.len / plan.loss.framing))
  -- and the rule of loss fits
  pub loss : IsLossRule plan.loss
