use Rattle.std.proofs.Common.{◌≡◌, ◌∷◌, [], ◌++◌, Bool, List, length, sym, ap, ◌∙◌, arith}
use Rattle.pdh_phases.specs.Runs.{bit_in, bits_before}
use Rattle.pdh_phases.proofs.Signals.{signal_bits_is, bits_before-next, length-before}
use Rattle.pdh_phases.proofs.signal.signal_word.Goals as goal

pub push-requires : goal.push-requires
push-requires g c =
    let long : length c.loop-slot.bits ≡ c.loop-slot.slot = ap length c.loop-slot.invariant ∙ length-before g.S.Shape.shape c.loop-slot.slot in
    omega (arith, long, c.loop-slot-test.true, c.SIGNAL-slot-end.ensures, g.met.S.Shape.signal_is, g.met.S.Shape.has_signal.few)

pub loop-slot-preserved : goal.loop-slot-preserved
loop-slot-preserved g c =
    c.push.ensures ∙ ap (λ (x : List Bool). x ++ c.signal_bit.result ∷ []) c.loop-slot.invariant
    ∙ ap (λ (b : Bool). bits_before g.S.Shape.shape c.loop-slot.slot ++ b ∷ []) (c.signal_bit.ensures ∙ ap bit_in c.role.ensures) ∙ sym (bits_before-next g.S.Shape.shape c.loop-slot.slot)

pub returns : goal.returns
returns g c =
    let all : c.loop-slot.slot ≡ g.S.Shape.shape.signal = omega (arith, c.loop-slot-test.false, c.loop-slot.auto.slot-end, c.SIGNAL-slot-end.ensures, g.met.S.Shape.signal_is) in
    c.loop-slot.invariant ∙ ap (bits_before g.S.Shape.shape) all ∙ sym (signal_bits_is g.S.Shape.shape)
