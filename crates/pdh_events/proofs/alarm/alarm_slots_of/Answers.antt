use Rattle.std.proofs.Common.{◌≡◌, ◌<◌, ◌++◌, ◌∷◌, [], true, false, length, map, get_or, sym, ◌∙◌, ap, arith}
use Rattle.std.proofs.lemmas.List.{append-nil}
use Rattle.pdh_shape.specs.declared.role.Duty.TheVariants.{Alarm}
use Rattle.pdh_events.specs.Duties.{alarm_bit, has_duty}
use Rattle.pdh_events.specs.Keeping.{alarm_slot}
use Rattle.pdh_events.specs.declared.alarm.AlarmSlot.{AlarmSlot}
use Rattle.pdh_events.proofs.DutyLaws.{has_slot, overhead_inside, slots_all, kept_more}
use Rattle.pdh_events.proofs.alarm.alarm_slots_of.Goals as goal
use Rattle.pdh_events.proofs.alarm.alarm_slots_of.Goals.{then-has_duty+in_ok-push, else-has_duty}

pub role-role-requires : goal.role-role-requires
role-role-requires g c = (let inside = overhead_inside g.S.Shape.shape c.args.overhead.now c.loop-slot.slot-index 0 c.requires (omega arith) in omega (arith, inside, c.from.ensures, g.met.S.Shape.len_is))

pub loop-slot-preserved : goal.loop-slot-preserved
loop-slot-preserved g c =
    let s = g.S.Shape.shape in
    let xs = c.args.overhead.now in
    let i = c.loop-slot.slot-index in
    let k = get_or xs i 0 in
    let inside : i < length xs = omega arith in
    let role = c.role-role.ensures ∙ ap s.role c.from.ensures in
    let test = c.has_duty.ensures ∙ ap (has_duty s Alarm) role in
    elim c.if-has_duty.branch [
      | then-has_duty+in_ok-push w ↦
          let one : record { slot = k; bit = w.alarm_bit.result } ≡ alarm_slot s k = ap (λ bit. record { slot = k; bit = bit }) (w.alarm_bit.ensures ∙ ap (alarm_bit s) role) in
          kept_more (alarm_slot s) (has_slot s Alarm) xs i true c.loop-slot.slots.items _ inside c.loop-slot.invariant (sym w.if-has_duty.true ∙ test)
          (ap (λ v. v.items) w.slots-is ∙ w.in_ok-push.ensures.items ∙ ap (λ (x : AlarmSlot). c.loop-slot.slots.items ++ x ∷ []) one)
      | else-has_duty w ↦ kept_more (alarm_slot s) (has_slot s Alarm) xs i false c.loop-slot.slots.items _ inside c.loop-slot.invariant (sym w.if-has_duty.false ∙ test) (ap (λ v. v.items) w.slots-is ∙ sym (append-nil c.loop-slot.slots.items))
    ]

pub returns : goal.returns
returns g c = c.loop-slot.invariant ∙ ap (map (alarm_slot g.S.Shape.shape)) (slots_all g.S.Shape.shape Alarm c.args.overhead.now c.loop-slot.slot-index c.requires (omega arith))
