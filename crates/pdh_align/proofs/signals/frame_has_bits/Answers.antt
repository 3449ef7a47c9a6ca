use Rattle.std.proofs.Common.{◌≡◌, ◌+◌, false, take, get_or, sym, ap, ◌∙◌, arith}
use Rattle.std.proofs.lemmas.List.{take_all}
use Rattle.pdh_shape.specs.Frame.{is_right}
use Rattle.pdh_align.proofs.SignalLaws.{agrees, agrees_right, signal_within, signal_right, signal_wrong}
use Rattle.pdh_align.proofs.signals.frame_has_bits.Goals as goal

pub get-requires : goal.get-requires
get-requires g c =
    omega (arith, g.met.S.Shape.len_is, c.requires.whole, signal_within g.S.Shape.shape c.args.slots.now c.loop-signal.signal-index (record { slot = 0; bit = false }) c.requires.signals c.loop-signal-test.true)

pub returns-then-get-signal : goal.returns-then-get-signal
returns-then-get-signal g c =
    let all : take g.S.Shape.LEN c.args.frame.now.bits ≡ c.args.frame.now.bits = take_all g.S.Shape.LEN c.args.frame.now.bits (omega (arith, c.requires.whole)) in
    let slot = (get_or c.args.slots.now c.loop-signal.signal-index (record { slot = 0; bit = false })).slot in
    let place : slot ≡ 0 + slot = omega arith in
    let read = c.get.ensures ∙ ap (λ n. get_or c.args.frame.now.bits n false) place in
    sym (signal_wrong g.S.Shape.shape c.args.slots.now c.args.frame.now.bits 0 g.S.Shape.LEN c.loop-signal.signal-index (record { slot = 0; bit = false }) c.get.result
    c.requires.signals g.met.S.Shape.len_is c.loop-signal-test.true read c.if-get-signal.true) ∙ ap (is_right g.S.Shape.shape) all

pub loop-signal-preserved : goal.loop-signal-preserved
loop-signal-preserved g c =
    let slot = (get_or c.args.slots.now c.loop-signal.signal-index (record { slot = 0; bit = false })).slot in
    let place : slot ≡ 0 + slot = omega arith in
    let read = c.get.ensures ∙ ap (λ n. get_or c.args.frame.now.bits n false) place in
    signal_right g.S.Shape.shape c.args.slots.now c.args.frame.now.bits 0 g.S.Shape.LEN c.loop-signal.signal-index (record { slot = 0; bit = false }) c.get.result
    c.requires.signals g.met.S.Shape.len_is c.loop-signal-test.true read c.if-get-signal.false c.loop-signal.invariant

pub returns : goal.returns
returns g c =
    let s = g.S.Shape.shape in
    let slots = c.args.slots.now in
    let frame = take g.S.Shape.LEN c.args.frame.now.bits in
    let all : frame ≡ c.args.frame.now.bits = take_all g.S.Shape.LEN c.args.frame.now.bits (omega (arith, c.requires.whole)) in
    sym c.loop-signal.invariant ∙ ap (λ x. agrees s x frame) (take_all c.loop-signal.signal-index slots (omega (arith, c.loop-signal-test.false))) ∙ agrees_right s slots frame c.requires.signals
    ∙ ap (is_right s) all
