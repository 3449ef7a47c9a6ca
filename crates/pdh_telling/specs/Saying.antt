-- What the service bits of frames say (ITU-T G.742, Table 1, and G.751; ANSI T1.107).
use Rattle.std.specs.Prelude.{◌≡◌, ℕ, zero, suc, ◌<◌, Bool, true, not, ◌&&◌, [], length}
use Rattle.std.specs.Bool.{beq}
use Rattle.pdh_shape.specs.declared.role.Role.TheVariants.{Service}
use Rattle.pdh_shape.specs.declared.role.Duty.TheVariants.{Alarm, Febe}
use Rattle.pdh_shape.specs.declared.role.Service.{Service as Say}
use Rattle.pdh_shape.specs.Frame.{FrameShape}
use Rattle.pdh_events.specs.Duties.{has_duty, slots_with, alarm_bit}

-- frames of the shape have alarm bits, each of which is that of an alarm exactly where the frame says one, whatever else it says
pub record SaysAlarm (s : FrameShape) : Type 0 where
  pub some : 0 < length (slots_with s Alarm)
  pub bits : (number : ℕ) → has_duty s Alarm (Service number) ≡ true → (say : Say) (odd : Bool) → beq (s.service number say odd) (alarm_bit s (Service number)) ≡ say.alarm

-- they have far end block error bits, each of which is as the frame says, whatever else it says
pub record SaysBlockErrors (s : FrameShape) : Type 0 where
  pub some : 0 < length (slots_with s Febe)
  pub bits : (number : ℕ) → has_duty s Febe (Service number) ≡ true → (say : Say) (odd : Bool) → s.service number say odd ≡ say.febe

-- they have no such bits
pub record SaysNoBlockErrors (s : FrameShape) : Type 0 where
  pub none : slots_with s Febe ≡ []

-- an alarm begins with frame n, where these say one: it says one, and there is no frame before it, or that one says none
abbrev pub alarm_begins : (ℕ → Bool) → ℕ → Bool
alarm_begins alarm zero = alarm zero
alarm_begins alarm (suc n) = alarm (suc n) && not (alarm n)
