use Rattle.std.proofs.Common.{false, take, drop, sym, ap, ◌∙◌, arith}
use Rattle.std.proofs.lemmas.List.{take_all}
use Rattle.pdh_align.proofs.SignalLaws.{agrees, agrees_right, signal_within, signal_right, signal_wrong}
use Rattle.pdh_align.proofs.signals.has_bits.Goals as goal

pub overflow_add-start : goal.overflow_add-start
overflow_add-start g c =
    omega (arith, g.met.S.Shape.len_is, signal_within g.S.Shape.shape c.args.slots.now c.loop-signal.signal-index (record { slot = 0; bit = false }) c.requires.signals c.loop-signal-test.true)

pub bit-requires : goal.bit-requires
bit-requires g c =
    omega (arith, g.met.S.Shape.len_is, c.requires.whole, signal_within g.S.Shape.shape c.args.slots.now c.loop-signal.signal-index (record { slot = 0; bit = false }) c.requires.signals c.loop-signal-test.true)

pub returns-then-bit-signal : goal.returns-then-bit-signal
returns-then-bit-signal g c =
    sym (signal_wrong g.S.Shape.shape c.args.slots.now c.args.held.now.bits c.args.start g.S.Shape.LEN c.loop-signal.signal-index (record { slot = 0; bit = false }) c.bit.result
    c.requires.signals g.met.S.Shape.len_is c.loop-signal-test.true c.bit.ensures c.if-bit-signal.true)

pub loop-signal-preserved : goal.loop-signal-preserved
loop-signal-preserved g c =
    signal_right g.S.Shape.shape c.args.slots.now c.args.held.now.bits c.args.start g.S.Shape.LEN c.loop-signal.signal-index (record { slot = 0; bit = false }) c.bit.result
    c.requires.signals g.met.S.Shape.len_is c.loop-signal-test.true c.bit.ensures c.if-bit-signal.false c.loop-signal.invariant

pub returns : goal.returns
returns g c =
    let s = g.S.Shape.shape in
    let slots = c.args.slots.now in
    let frame = take g.S.Shape.LEN (drop c.args.start c.args.held.now.bits) in
    sym c.loop-signal.invariant ∙ ap (λ x. agrees s x frame) (take_all c.loop-signal.signal-index slots (omega (arith, c.loop-signal-test.false))) ∙ agrees_right s slots frame c.requires.signals
