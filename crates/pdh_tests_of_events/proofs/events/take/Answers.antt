use Rattle.std.proofs.Common.{◌≡◌, ◌%◌, ◌==◌, Bool, List, Some, ap, sym, ◌∙◌, length}
use Rattle.pdh_shape.specs.Payload.{payload_ones}
use Rattle.pdh_eframes.specs.Plans.{e2}
use Rattle.pdh_events.specs.Duties.{is_odd, parity_kinds}
use Rattle.pdh_tests_of_events.proofs.events.take.Goals as goal

pub note-requires-clause-whole : goal.note-requires-clause-whole
note-requires-clause-whole c = ap length (c.frame.ensures ∙ c.exchange.ensures.taken) ∙ c.requires.whole

pub note-requires-clause-odd : goal.note-requires-clause-odd
unfolding is_odd
note-requires-clause-odd c =
    let ones : List Bool → Bool = λ frame. payload_ones e2 0 frame % 2 == 1 in
    let told : c.is_odd-odd.result ≡ ones c.frame.result.now.bits = c.is_odd-odd.ensures ∙ ap ones (sym c.frame.ensures) in
    λ (frame : List Bool). ap (λ (odd : Bool). parity_kinds e2 (Some odd) frame) told
