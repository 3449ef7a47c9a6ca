use Rattle.std.proofs.Common.{◌≡◌, ◌+◌, Bool, false, List, [], ◌∷◌, ◌++◌, take, slice_index_or, sym, ap, ◌∙◌, subst, append_assoc, arith}
use Rattle.std.proofs.lemmas.List.{map_more}
use Rattle.pdh_watch.specs.declared.event.Event.{Event}
use Rattle.pdh_cbit.specs.Channel.{HasReceived}
use Rattle.pdh_events.specs.Duties.{code_event}
use Rattle.pdh_events.specs.Keeping.{bits_at}
use Rattle.pdh_events.proofs.ToldCodes.{code_events_more}
use Rattle.pdh_events.proofs.codes.note_codes.Goals as goal

pub loop-slot-preserved : goal.loop-slot-preserved
loop-slot-preserved g c =
    let slots = c.args.slots.now in
    let frame = c.args.frame.now.bits in
    let i = c.loop-slot.slot-index in
    let bit : Bool = c.get.result in
    let bits : List Bool = bits_at (take i slots) frame in
    let more : bits_at (take (i + 1) slots) frame ≡ bits ++ bit ∷ [] = map_more (λ slot. slice_index_or frame slot false) slots i 0 (omega arith) ∙ ap (λ slot. bits ++ slice_index_or frame slot false ∷ []) (sym c.from.ensures) ∙ ap (λ b. bits ++ b ∷ []) (sym c.get.ensures) in
    record {
      received = λ before is.
          subst (HasReceived c.push-code.new.self) (append_assoc before bits (bit ∷ []) ∙ ap (λ x. before ++ x) (sym more)) (c.push-code.ensures.received (before ++ bits) (c.loop-slot.invariant.received before is));
      seen = λ before is.
          let event = code_event c.args.path c.args.bit in
          let P : List Event → Type 0 = λ events. g.W.Watch.saw c.args.watch.now events c.note_code.new.watch in
          subst P (code_events_more event before bits (bits_at (take (i + 1) slots) frame) bit c.push-code.result (c.push-code.ensures.answer (before ++ bits) (c.loop-slot.invariant.received before is)) more)
          (g.met.W.Watch.saw_join _ _ _ _ _ (c.loop-slot.invariant.seen before is) c.note_code.ensures);
    }
