-- What the frames of the standards say.
use Rattle.std.proofs.Common.{◌≡◌, ℕ, zero, suc, ◌<◌, Bool, true, false, not, List, length, refl, sym, ap, ◌∙◌, lit<}
use Rattle.std.specs.Bool.{beq}
use Rattle.std.proofs.lemmas.Bool.{false≢true}
use Rattle.pdh_shape.specs.declared.role.Role.TheVariants.{Service}
use Rattle.pdh_shape.specs.declared.role.Duty.TheVariants.{Alarm, Febe}
use Rattle.pdh_shape.specs.declared.role.Service.{Service as Say}
use Rattle.pdh_shape.specs.Frame.{FrameShape, idle}
use Rattle.pdh_events.specs.Duties.{has_duty, slots_with}
use Rattle.pdh_eframes.specs.declared.set_plan.SetPlan.{SetPlan}
use Rattle.pdh_eframes.specs.Sets.{set_role, in_sets}
use Rattle.pdh_eframes.specs.Plans.{e2_signal, e2_plan, e2, e3_plan, e3, e4_signal, e4_plan, e4}
use Rattle.pdh_ds.specs.Blocks.{block_role}
use Rattle.pdh_ds.specs.Plans.{ds2, ds3, ds3c}
use Rattle.pdh_telling.specs.Saying.{SaysAlarm, SaysBlockErrors, SaysNoBlockErrors}

-- service bit 0 alone is of the alarm, and is the alarm or its inverse
alarm_first : (s : FrameShape) (of : Bool → Bool) → 0 < length (slots_with s Alarm) → ((alarm : Bool) → beq (of alarm) (of true) ≡ alarm) → ((say : Say) (odd : Bool) → s.service 0 say odd ≡ of say.alarm)
    → ((number : ℕ) → has_duty s Alarm (Service (suc number)) ≡ false) → SaysAlarm s
alarm_first s of some decides is alone = record { some = some; bits = λ number. bits number }
  where
    bits : (number : ℕ) → has_duty s Alarm (Service number) ≡ true → (say : Say) (odd : Bool) → beq (s.service number say odd) (s.service number (record idle { alarm = true }) false) ≡ say.alarm
    bits zero h say odd = ap (λ b. beq b (s.service 0 (record idle { alarm = true }) false)) (is say odd) ∙ ap (beq (of say.alarm)) (is (record idle { alarm = true }) false) ∙ decides say.alarm
    bits (suc number) h say odd = absurd (false≢true (sym (alone number) ∙ h))

as_it_is : (alarm : Bool) → beq alarm true ≡ alarm
as_it_is true = refl
as_it_is false = refl

inverse : (alarm : Bool) → beq (not alarm) false ≡ alarm
inverse true = refl
inverse false = refl

set_alarm : (signal : List Bool) (plan : SetPlan) → 0 < length (slots_with (in_sets signal plan) Alarm) → SaysAlarm (in_sets signal plan)
set_alarm signal plan some = alarm_first (in_sets signal plan) (λ alarm. alarm) some as_it_is (λ say odd. refl) (λ number. refl)

pub e2_alarm : SaysAlarm e2
unfolding set_role
e2_alarm = set_alarm e2_signal e2_plan (lit< tt)

pub e3_alarm : SaysAlarm e3
unfolding set_role
e3_alarm = set_alarm e2_signal e3_plan (lit< tt)

pub e4_alarm : SaysAlarm e4
unfolding set_role
e4_alarm = set_alarm e4_signal e4_plan (lit< tt)

pub ds2_alarm : SaysAlarm ds2
unfolding block_role
ds2_alarm = alarm_first ds2 not (lit< tt) inverse (λ say odd. refl) (λ number. refl)

pub ds3_alarm : SaysAlarm ds3
unfolding block_role
ds3_alarm = alarm_first ds3 not (lit< tt) inverse (λ say odd. refl) others
  where
    others : (number : ℕ) → has_duty ds3 Alarm (Service (suc number)) ≡ false
    others zero = refl
    others (suc number) = refl

pub ds3c_alarm : SaysAlarm ds3c
unfolding block_role
ds3c_alarm = alarm_first ds3c not (lit< tt) inverse (λ say odd. refl) others
  where
    others : (number : ℕ) → has_duty ds3c Alarm (Service (suc number)) ≡ false
    others zero = refl
    others (suc zero) = refl
    others (suc (suc zero)) = refl
    others (suc (suc (suc zero))) = refl
    others (suc (suc (suc (suc zero)))) = refl
    others (suc (suc (suc (suc (suc number))))) = refl

pub ds3c_block_errors : SaysBlockErrors ds3c
unfolding block_role
ds3c_block_errors = record { some = lit< tt; bits = λ number. bits number }
  where
    bits : (number : ℕ) → has_duty ds3c Febe (Service number) ≡ true → (say : Say) (odd : Bool) → ds3c.service number say odd ≡ say.febe
    bits zero h say odd = cc
    bits (suc zero) h say odd = cc
    bits (suc (suc zero)) h say odd = cc
    bits (suc (suc (suc zero))) h say odd = cc
    bits (suc (suc (suc (suc zero)))) h say odd = cc
    bits (suc (suc (suc (suc (suc zero))))) h say odd = refl
    bits (suc (suc (suc (suc (suc (suc number)))))) h say odd = cc

pub e2_none : SaysNoBlockErrors e2
unfolding set_role
e2_none = record { none = refl }

pub e3_none : SaysNoBlockErrors e3
unfolding set_role
e3_none = record { none = refl }

pub e4_none : SaysNoBlockErrors e4
unfolding set_role
e4_none = record { none = refl }

pub ds2_none : SaysNoBlockErrors ds2
unfolding block_role
ds2_none = record { none = refl }

pub ds3_none : SaysNoBlockErrors ds3
unfolding block_role
ds3_none = record { none = refl }
