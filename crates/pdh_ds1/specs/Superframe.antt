-- Superframes of DS1 frames of ANSI T1.107: each frame is an F bit and 192 payload bits.
use Rattle.std.specs.Prelude.{◌≡◌, ◌<◌, ◌≤◌, ℕ, ◌*◌, ◌/◌, ◌%◌, true, false, ◌==◌, if◌then◌else◌, List}
use Rattle.std.specs.List.{slice_index_or}
use Rattle.pdh_shape.specs.declared.role.Role.{Role}
use Rattle.pdh_shape.specs.declared.role.Role.TheVariants.{Service as ServiceSlot}
use Rattle.pdh_shape.specs.declared.role.Mark.{Mark}
use Rattle.pdh_shape.specs.declared.role.Mark.TheVariants.{Framing, Other}
use Rattle.pdh_shape.specs.declared.role.Duty.TheVariants.{Other as NoDuty}
use Rattle.pdh_shape.specs.Frame.{FrameShape, is_align}
use Rattle.pdh_ds.specs.Loss.{IsLossRule, window_wrong}
use Rattle.pdh_ds1.specs.declared.plan.SuperframePlan.{SuperframePlan}

-- what the F bit of a frame carries, where these are those of the superframe in order
abbrev pub f_bit_at : List Role → ℕ → Role
f_bit_at f_bits frame = slice_index_or f_bits frame (ServiceSlot 2)

-- the F bit begins a frame; the payload follows
unfoldable pub superframe_role : List Role → ℕ → Role
superframe_role f_bits slot = (if slot % 193 == 0 then f_bit_at f_bits (slot / 193) else ServiceSlot 0)

-- the framing slots are spread evenly over the superframe
abbrev pub framing_mark : SuperframePlan → ℕ → Mark
framing_mark plan slot = Framing (slot / (plan.len / plan.loss.framing))

unfoldable pub superframe_mark : List Role → SuperframePlan → ℕ → Mark
superframe_mark f_bits plan slot = (if is_align (superframe_role f_bits slot) then framing_mark plan slot else Other)

-- the superframe with these F bits and these numbers, which has no tributaries
abbrev pub in_superframe : List Role → SuperframePlan → FrameShape
in_superframe f_bits plan = record {
  len = plan.len;
  tribs = 0;
  copies = 0;
  low = 0;
  signal = 0;
  role = superframe_role f_bits;
  mark = superframe_mark f_bits plan;
  inverted = λ j. false;
  duty = λ number. NoDuty;
  service = λ number say odd. true;
  loses = λ a b c d. window_wrong plan.loss c d;
}

-- the numbers of a superframe fit together
pub record IsSuperframePlan (plan : SuperframePlan) : Type 0 where
  -- it is its frames, of which there are not so many that their number is more than a byte
  pub whole : plan.len ≡ 193 * plan.frames
  pub few : plan.frames ≤ 24
  pub some : 0 < plan.frames
  -- each framing slot has an equal part of it
  pub even : (0 < plan.loss.framing) × (plan.len ≡ plan.loss.framing * (plan.len / plan.loss.framing))
  -- and the rule of loss fits
  pub loss : IsLossRule plan.loss
