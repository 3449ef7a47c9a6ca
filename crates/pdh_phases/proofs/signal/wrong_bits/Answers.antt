use Rattle.std.proofs.Common.{◌≡◌, ◌<◌, Bool, false, not, List, length, get_or, replicate, ap, ◌∙◌, arith}
use Rattle.std.proofs.lemmas.List.{take_all}
use Rattle.pdh_phases.specs.Runs.{signal_bits}
use Rattle.pdh_phases.specs.Keeping.{wrong_words}
use Rattle.pdh_phases.proofs.Signals.{length-signal}
use Rattle.pdh_phases.proofs.Searching.{wrong-more}
use Rattle.pdh_phases.proofs.signal.wrong_bits.Goals as goal

pub get-requires : goal.get-requires
get-requires g c =
    omega (arith, c.loop-slot-test.true, c.SIGNAL-slot-end.ensures, g.met.S.Shape.signal_is, ap length c.signal_word-signal.ensures, length-signal g.S.Shape.shape)

pub loop-slot-preserved : goal.loop-slot-preserved
loop-slot-preserved g c =
    let s = g.S.Shape.shape in
    let slot = c.loop-slot.slot in
    let lt : slot < s.signal = omega (arith, c.loop-slot-test.true, c.SIGNAL-slot-end.ensures, g.met.S.Shape.signal_is) in
    let bit : c.get.result ≡ get_or (signal_bits s) slot false = c.get.ensures ∙ ap (λ (x : List Bool). get_or x slot false) c.signal_word-signal.ensures in
    let word : c.copies.result ≡ replicate 64 (not (get_or (signal_bits s) slot false)) = c.copies.ensures ∙ ap (λ (b : Bool). replicate 64 (not b)) bit in
    (wrong-more s c.loop-slot.wrong.items _ c.copies.result slot lt c.loop-slot.invariant.0 word c.push_reserved.ensures.items, c.push_reserved.ensures.capacity ∙ c.loop-slot.invariant.1)

pub returns : goal.returns
returns g c =
    let s = g.S.Shape.shape in
    c.loop-slot.invariant.0 ∙ ap wrong_words (take_all c.loop-slot.slot (signal_bits s) (omega (arith, c.loop-slot-test.false, c.SIGNAL-slot-end.ensures, g.met.S.Shape.signal_is, length-signal s)))
