use Rattle.std.proofs.Common.{◌≡◌, take, sym, ap, ◌∙◌, arith}
use Rattle.std.proofs.lemmas.List.{take_all}
use Rattle.pdh_shape.specs.Frame.{is_right}
use Rattle.pdh_align.proofs.SignalLaws.{right_by_number}
use Rattle.pdh_align.proofs.signals.frame_is_right.Goals as goal

pub returns-then-SIGNAL-gt0 : goal.returns-then-SIGNAL-gt0
returns-then-SIGNAL-gt0 g c =
    let s = g.S.Shape.shape in
    let bits = c.args.frame.now.bits in
    let read : c.read.result ≡ take s.signal bits = c.read.ensures ∙ ap (λ n. take n bits) (c.SIGNAL-then-SIGNAL-gt0.ensures ∙ sym g.met.S.Shape.signal_is) in
    let all : take g.S.Shape.LEN bits ≡ bits = take_all g.S.Shape.LEN bits (omega (arith, c.requires.whole)) in
    right_by_number s bits c.read.result 0 g.S.Shape.LEN c.number.result c.args.signals.now.number g.met.S.Shape.has_signal (omega (arith, c.if-SIGNAL-gt0.true, c.SIGNAL.ensures, g.met.S.Shape.signal_is))
    g.met.S.Shape.len_is (omega (arith, c.requires.whole)) read c.number.ensures.value c.requires.judges.number ∙ ap (is_right s) all
