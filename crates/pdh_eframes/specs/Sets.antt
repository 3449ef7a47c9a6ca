-- The frames of four tributaries in sets of equal length: ITU-T G.742, Table 1; G.751 has frames of the same plan.
use Rattle.std.specs.Prelude.{◌≡◌, ◌<◌, ◌≤◌, ℕ, ◌-◌, ◌*◌, ◌/◌, ◌%◌, Bool, true, false, nat_lt, nat_le, ◌==◌, ◌&&◌, if◌then◌else◌, List, [], ◌∷◌, length}
use Rattle.std.specs.List.{slice_index_or}
use Rattle.pdh_shape.specs.declared.role.Role.{Role}
use Rattle.pdh_shape.specs.declared.role.Role.TheVariants.{Align, Service, Control, Just, Info}
use Rattle.pdh_shape.specs.declared.role.Mark.{Mark}
use Rattle.pdh_shape.specs.declared.role.Mark.TheVariants.{Framing, Other}
use Rattle.pdh_shape.specs.declared.role.Marks.{Marks}
use Rattle.pdh_shape.specs.declared.role.Service.{Service as Say}
use Rattle.pdh_shape.specs.declared.role.Duty.{Duty}
use Rattle.pdh_shape.specs.declared.role.Duty.TheVariants.{Alarm, Other as NoDuty}
use Rattle.pdh_shape.specs.Frame.{FrameShape}
use Rattle.pdh_eframes.specs.declared.set_plan.SetPlan.{SetPlan}

-- The first set begins with the alignment signal, the alarm and the national bits; each later set with one control
-- bit of each tributary; in the last set the justifiable slots follow. All other slots carry the tributaries in turn.
unfoldable pub set_role : List Bool → SetPlan → ℕ → Role
set_role signal plan slot =
    (if nat_lt slot (length signal) then Align (slice_index_or signal slot false)
    else (if nat_lt slot plan.first_info then Service (if slot == length signal then 0 else 1)
    else (if nat_le plan.set slot && nat_lt (slot % plan.set) 4 then Control (slot % plan.set) (slot / plan.set - 1)
    else (if slot / plan.set == plan.sets - 1 && nat_lt (slot % plan.set) 8 then Just (slot % plan.set - 4)
    else Info (slot % 4)))))

-- every slot of the signal is a framing slot
unfoldable pub set_mark : ℕ → ℕ → Mark
set_mark signal slot = (if nat_lt slot signal then Framing slot else Other)

-- number 0 is the alarm; the national bits are 1
abbrev pub set_service : ℕ → Say → Bool
set_service number say = slice_index_or (say.alarm ∷ []) number true

abbrev pub set_duty : ℕ → Duty
set_duty number = slice_index_or (Alarm ∷ []) number NoDuty

-- some framing slot is wrong
abbrev pub signal_wrong : Marks → Bool
signal_wrong marks = nat_lt 0 marks.framing

-- alignment is lost where the signal is wrong in four frames that follow each other (G.742, 4; G.751 has the same rule)
unfoldable pub four_wrong : Marks → Marks → Marks → Marks → Bool
four_wrong a b c d = signal_wrong a && signal_wrong b && signal_wrong c && signal_wrong d

-- the frame with this alignment signal and these numbers
abbrev pub in_sets : List Bool → SetPlan → FrameShape
in_sets signal plan = record {
  len = plan.len;
  tribs = 4;
  copies = plan.copies;
  low = plan.low;
  signal = plan.signal;
  role = set_role signal plan;
  mark = set_mark (length signal);
  inverted = λ j. false;
  duty = set_duty;
  service = λ number say odd. set_service number say;
  loses = four_wrong;
}

-- the numbers of a frame in sets fit together
pub record IsSetPlan (signal : List Bool) (plan : SetPlan) : Type 0 where
  -- a frame is its sets, of which it has some,
  pub whole : plan.len ≡ plan.set * plan.sets
  pub some : (0 < plan.set) × (0 < plan.sets)
  -- but not so many that a copy's number is more than a byte
  pub few : plan.sets ≤ 256
  -- and nor is that of a slot of the signal
  pub short : length signal < 256
  -- the signal has so many slots
  pub signal_is : plan.signal ≡ length signal
