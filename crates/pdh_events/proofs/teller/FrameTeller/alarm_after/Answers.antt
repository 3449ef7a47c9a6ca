use Rattle.std.proofs.Common.{◌≡◌, ap, sym, ◌∙◌, map}
use Rattle.pdh_shape.specs.declared.role.Duty.TheVariants.{Alarm}
use Rattle.pdh_events.specs.Duties.{agreed, alarm_says, slots_with}
use Rattle.pdh_events.specs.Keeping.{alarm_slot}
use Rattle.pdh_events.proofs.DutyLaws.{alarms_inside, says_are}
use Rattle.pdh_events.proofs.teller.FrameTeller.alarm_after.Goals as goal

pub agreed_alarm-requires : goal.agreed_alarm-requires
agreed_alarm-requires g c = alarms_inside g.S.Shape.shape _ _ (c.deref.ensures.value ∙ c.self.invariant.alarm_are) (g.met.S.Shape.len_is ∙ sym c.requires)

pub returns : goal.returns
returns g c =
    let s = g.S.Shape.shape in
    let is : c.deref.result.now ≡ map (alarm_slot s) (slots_with s Alarm) = c.deref.ensures.value ∙ c.self.invariant.alarm_are in
    let says = says_are s c.deref.result.now c.args.frame.now.bits is in
    let result : c.agreed_alarm.result ≡ agreed c.self.inside.alarm (alarm_says s c.args.frame.now.bits) = c.agreed_alarm.ensures ∙ ap (agreed c.self.inside.alarm) says in
    result ∙ ap (λ kept. agreed kept.alarm (alarm_says s c.args.frame.now.bits)) c.self.view_is
