use Rattle.std.proofs.Common.{◌≡◌, ◌<◌, not, false, take, get_or, sym, ap, ◌∙◌, arith}
use Rattle.std.specs.Bool.{beq}
use Rattle.std.proofs.lemmas.List.{take_all}
use Rattle.std.proofs.lemmas.List.Sums.{sum_by_more_le}
use Rattle.pdh_shape.specs.Frame.{breaks_at, framing_mark, wrong}
use Rattle.pdh_align.proofs.SignalLaws.{framing_of, multi_of, signal_within, signal_broken, wrong_fits, marks_all}
use Rattle.pdh_align.proofs.signals.wrong_slots.Goals as goal

pub get-requires : goal.get-requires
get-requires g c =
    omega (arith, c.requires.whole, g.met.S.Shape.len_is, signal_within g.S.Shape.shape c.args.slots.now c.loop-signal.signal-index (record { slot = 0; bit = false }) c.requires.signals c.loop-signal-test.true)

pub mark-mark-requires : goal.mark-mark-requires
mark-mark-requires g c =
    omega (arith, g.met.S.Shape.len_is, signal_within g.S.Shape.shape c.args.slots.now c.loop-signal.signal-index (record { slot = 0; bit = false }) c.requires.signals c.loop-signal-test.true)

pub framing_bit-framing-requires : goal.framing_bit-framing-requires
framing_bit-framing-requires g c number is =
    let signal = get_or c.args.slots.now c.loop-signal.signal-index (record { slot = 0; bit = false }) in
    let within : signal.slot < g.S.Shape.shape.len = signal_within g.S.Shape.shape c.args.slots.now c.loop-signal.signal-index (record { slot = 0; bit = false }) c.requires.signals c.loop-signal-test.true in
    g.met.S.Shape.has_marks.few signal.slot number within (sym c.mark-mark.ensures ∙ is)

pub overflow_add-framing : goal.overflow_add-framing
overflow_add-framing g c =
    let s = g.S.Shape.shape in
    let slots = c.args.slots.now in
    let bits = c.args.frame.now.bits in
    let j = c.loop-signal.signal-index in
    let signal = get_or slots j (record { slot = 0; bit = false }) in
    let broken = signal_broken s slots bits j (record { slot = 0; bit = false }) c.get.result c.requires.signals c.loop-signal-test.true c.get.ensures in
    let more : c.framing_bit-framing.result ≡ framing_mark (s.mark signal.slot) (breaks_at s bits signal.slot) =
    c.framing_bit-framing.ensures ∙ ap (λ m. framing_mark m (not (beq c.get.result signal.bit))) c.mark-mark.ensures ∙ ap (framing_mark (s.mark signal.slot)) broken in
    let most = sum_by_more_le (λ signal. framing_mark (s.mark signal.slot) (breaks_at s bits signal.slot)) slots j (record { slot = 0; bit = false }) c.loop-signal-test.true in
    let whole : framing_of s bits slots ≡ (wrong s bits).framing = ap (λ m. m.framing) (marks_all s bits slots c.requires.signals) in
    omega (arith, most, whole, more, c.loop-signal.invariant.0, wrong_fits s bits g.met.S.Shape.has_marks)

pub returns : goal.returns
returns g c =
    let s = g.S.Shape.shape in
    let slots = c.args.slots.now in
    let bits = c.args.frame.now.bits in
    let all : take c.loop-signal.signal-index slots ≡ slots = take_all c.loop-signal.signal-index slots (omega (arith, c.loop-signal-test.false)) in
    let framing = c.loop-signal.invariant.0 ∙ ap (framing_of s bits) all in
    let multi = c.loop-signal.invariant.1 ∙ ap (multi_of s bits) all in
    (λ i. record { framing = framing i; multi = multi i }) ∙ marks_all s bits slots c.requires.signals
