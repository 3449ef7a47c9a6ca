-- What is kept and noted of a frame.
use Rattle.std.proofs.Common.{◌≡◌, ℕ, Bool, false, Some, None, List, [], ◌∷◌, ◌++◌, map, sym, ap, ◌∙◌}
use Rattle.std.specs.Prelude.{flat_map}
use Rattle.std.proofs.lemmas.List.{append-nil, map-append}
use Rattle.std.proofs.lemmas.List.Sums.{fold-append}
use Rattle.std.proofs.lemmas.Grind.{flat_map-append}
use Rattle.pdh_shape.specs.declared.place.Path.{Path}
use Rattle.pdh_shape.specs.declared.role.Duty.TheVariants.{Feac}
use Rattle.pdh_shape.specs.Frame.{FrameShape}
use Rattle.pdh_watch.specs.declared.event.Event.{Event}
use Rattle.pdh_watch.specs.declared.kind.Kind.{Kind}
use Rattle.pdh_watch.specs.declared.kind.TheConstants.Kind.{ALARM_ON, ALARM_OFF}
use Rattle.pdh_line.specs.Tracking.{Piece}
use Rattle.pdh_line.specs.Tracking.Piece.{Gap, Delivered}
use Rattle.pdh_cbit.specs.Channel.{HasReceived}
use Rattle.pdh_events.specs.Telling.{event_of, tell, changed}
use Rattle.pdh_events.specs.Duties.{frames_of, duty_bits, alarm_says, agreed, alarm_after, alarm_kinds, is_odd, odd_before, parity_kinds, TellAlike, febe_kinds, channel_bits, codes_answered, code_event, frame_events}
use Rattle.pdh_events.specs.Keeping.{Kept, Remembers, codes_told}
use Rattle.pdh_events.specs.laws.KeepingLaws.{frames_gap, frames_more, odd_gap, odd_more}

-- ---- what is kept

pub remembers_none : (s : FrameShape) (kept : Kept) → kept.alarm ≡ false → kept.odd ≡ None → HasReceived kept.channel [] → Remembers s kept []
unfolding alarm_after channel_bits
remembers_none s kept alarm odd channel = record { alarm_is = alarm; odd_is = λ frame. ap (λ odd. parity_kinds s odd frame) odd; channel_is = channel }

pub remembers_lost : (s : FrameShape) (old new : Kept) (pieces : List Piece) (n : ℕ) → new.alarm ≡ old.alarm → new.odd ≡ None → new.channel ≡ old.channel → Remembers s old pieces → Remembers s new (pieces ++ Gap n ∷ [])
remembers_lost s old new pieces n alarm odd channel is = record {
  alarm_is = alarm ∙ is.alarm_is ∙ ap (alarm_after s) (sym (frames_gap pieces n));
  odd_is = λ frame. ap (λ odd. parity_kinds s odd frame) (odd ∙ sym (odd_gap s pieces n));
  channel_is = rw (channel, frames_gap pieces n) is.channel_is;
}

alarm_more : (s : FrameShape) (frames : List (List Bool)) (frame : List Bool) → alarm_after s (frames ++ frame ∷ []) ≡ agreed (alarm_after s frames) (alarm_says s frame)
unfolding alarm_after
alarm_more s frames frame = fold-append (λ alarm frame. agreed alarm (alarm_says s frame)) false frames (frame ∷ [])

channel_more : (s : FrameShape) (frames : List (List Bool)) (frame : List Bool) → channel_bits s (frames ++ frame ∷ []) ≡ channel_bits s frames ++ duty_bits s Feac frame
unfolding channel_bits
channel_more s frames frame = flat_map-append (duty_bits s Feac) frames (frame ∷ []) ∙ ap (λ x. flat_map (duty_bits s Feac) frames ++ x) (append-nil (duty_bits s Feac frame))

alarm_goes : (s : FrameShape) (old : Kept) (pieces : List Piece) (frame : List Bool) (alarm : Bool) → Remembers s old pieces → alarm ≡ agreed old.alarm (alarm_says s frame) → alarm ≡ alarm_after s (frames_of pieces ++ frame ∷ [])
alarm_goes s old pieces frame alarm is e = e ∙ ap (λ b. agreed b (alarm_says s frame)) is.alarm_is ∙ sym (alarm_more s (frames_of pieces) frame)

pub remembers_more : (s : FrameShape) (old new : Kept) (pieces : List Piece) (frame : List Bool) → new.alarm ≡ agreed old.alarm (alarm_says s frame) → TellAlike s new.odd (Some (is_odd s frame))
    → ((before : List Bool) → HasReceived old.channel before → HasReceived new.channel (before ++ duty_bits s Feac frame)) → Remembers s old pieces → Remembers s new (pieces ++ Delivered frame ∷ [])
remembers_more s old new pieces frame alarm odd channel is = record {
  alarm_is = alarm_goes s old pieces frame new.alarm is alarm ∙ ap (alarm_after s) (sym (frames_more pieces frame));
  odd_is = λ later. odd later ∙ ap (λ odd. parity_kinds s odd later) (sym (odd_more s pieces frame));
  channel_is = rw (frames_more pieces frame, channel_more s (frames_of pieces) frame) (channel (channel_bits s (frames_of pieces)) is.channel_is);
}

-- ---- what is noted

-- two lists of kinds, one after the other
pub tell_append : (path : Path) (bit : ℕ) (first then_ : List Kind) → tell path bit (first ++ then_) ≡ tell path bit first ++ tell path bit then_
tell_append path bit first then_ = map-append (event_of path bit) first then_

-- the events of a frame, one after another
pub events_are : (s : FrameShape) (path : Path) (bit : ℕ) (old : Kept) (pieces : List Piece) (frame : List Bool) (alarm : Bool) → Remembers s old pieces → alarm ≡ agreed old.alarm (alarm_says s frame)
    → tell path bit (changed ALARM_ON ALARM_OFF old.alarm alarm) ++ tell path bit (parity_kinds s old.odd frame) ++ tell path bit (febe_kinds s frame) ++ map (code_event path bit) (codes_told (channel_bits s (frames_of pieces)) (duty_bits s Feac frame))
    ≡ frame_events s path bit pieces frame
unfolding frame_events codes_answered
events_are s path bit old pieces frame alarm is e =
    let codes : List Event = map (code_event path bit) (codes_told (channel_bits s (frames_of pieces)) (duty_bits s Feac frame)) in
    let parity : List Kind = parity_kinds s (odd_before s pieces) frame in
    let febe : List Kind = febe_kinds s frame in
    let alarms : List Kind = alarm_kinds s (frames_of pieces) frame in
    let same : changed ALARM_ON ALARM_OFF old.alarm alarm ≡ alarms = ap (λ was. changed ALARM_ON ALARM_OFF was alarm) is.alarm_is ∙ ap (changed ALARM_ON ALARM_OFF (alarm_after s (frames_of pieces))) (alarm_goes s old pieces frame alarm is e) in
    ap (λ kinds. tell path bit kinds ++ tell path bit (parity_kinds s old.odd frame) ++ tell path bit febe ++ codes) same
    ∙ ap (λ kinds. tell path bit alarms ++ tell path bit kinds ++ tell path bit febe ++ codes) (is.odd_is frame)
    ∙ ap (λ x. x ++ tell path bit febe ++ codes) (sym (tell_append path bit alarms parity)) ∙ ap (λ x. x ++ codes) (sym (tell_append path bit (alarms ++ parity) febe))
