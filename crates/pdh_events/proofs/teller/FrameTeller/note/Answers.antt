use Rattle.std.proofs.Common.{◌≡◌, Bool, List, ◌++◌, map, sym, ◌∙◌, subst}
use Rattle.pdh_shape.specs.declared.role.Duty.TheVariants.{Feac}
use Rattle.pdh_watch.specs.declared.event.Event.{Event}
use Rattle.pdh_cbit.specs.Channel.{HasReceived}
use Rattle.pdh_watch.specs.declared.kind.TheConstants.Kind.{ALARM_ON, ALARM_OFF}
use Rattle.pdh_events.specs.Telling.{tell, changed}
use Rattle.pdh_events.specs.Duties.{frames_of, duty_bits, channel_bits, code_event}
use Rattle.pdh_events.specs.Keeping.{Kept, bits_at, codes_told}
use Rattle.pdh_events.proofs.DutyLaws.{slots_inside, bits_are}
use Rattle.pdh_events.proofs.Noting.{remembers_more, events_are}
use Rattle.pdh_events.proofs.teller.FrameTeller.note.Goals as goal

pub note_codes-requires : goal.note_codes-requires
note_codes-requires g c = slots_inside g.S.Shape.shape Feac _ _ (c.deref.ensures.value ∙ c.self.invariant.feac_are) (g.met.S.Shape.len_is ∙ sym c.requires.whole)

pub returns-clause-remembers : goal.returns-clause-remembers
returns-clause-remembers g c pieces is =
    let s = g.S.Shape.shape in
    let frame = c.args.frame.now.bits in
    let bits : bits_at c.deref.result.now frame ≡ duty_bits s Feac frame = bits_are s Feac c.deref.result.now frame (c.deref.ensures.value ∙ c.self.invariant.feac_are) in
    remembers_more s c.args.self.now _ pieces frame c.alarm_after-alarm.ensures c.requires.odd
    (λ before received. subst (λ more. HasReceived c.note_codes.new.channel (before ++ more)) bits (c.note_codes.ensures.received before (subst (λ kept. HasReceived kept.channel before) (sym c.self.view_is) received)))
    is

pub returns-clause-seen : goal.returns-clause-seen
returns-clause-seen g c pieces is =
    let s = g.S.Shape.shape in
    let frame = c.args.frame.now.bits in
    let path = c.args.path in
    let bit = c.args.bit in
    let saw = g.W.Watch.saw in
    let join = g.met.W.Watch.saw_join in
    let alarms : Kept → List Event = λ kept. tell path bit (changed ALARM_ON ALARM_OFF kept.alarm c.alarm_after-alarm.result) in
    let codes : List Bool → List Event = λ bits. map (code_event path bit) (codes_told (channel_bits s (frames_of pieces)) bits) in
    let bits : bits_at c.deref.result.now frame ≡ duty_bits s Feac frame = bits_are s Feac c.deref.result.now frame (c.deref.ensures.value ∙ c.self.invariant.feac_are) in
    let received : HasReceived c.self.inside.channel (channel_bits s (frames_of pieces)) = subst (λ kept. HasReceived kept.channel (channel_bits s (frames_of pieces))) (sym c.self.view_is) is.channel_is in
    let first : saw c.args.watch.now (alarms c.args.self.now) c.note_change.new.watch = subst (λ kept. saw c.args.watch.now (alarms kept) c.note_change.new.watch) c.self.view_is c.note_change.ensures in
    let last : saw c.note_febe.new.watch (codes (duty_bits s Feac frame)) c.note_codes.new.watch = subst (λ bits. saw c.note_febe.new.watch (codes bits) c.note_codes.new.watch) bits (c.note_codes.ensures.seen _ received) in
    let P : List Event → Type 0 = λ events. saw c.args.watch.now events c.note_codes.new.watch in
    subst P (events_are s path bit c.args.self.now pieces frame c.alarm_after-alarm.result is c.alarm_after-alarm.ensures)
    (join _ _ _ _ _ (join _ _ _ _ _ (join _ _ _ _ _ first c.note_parity.ensures) c.note_febe.ensures) last)
