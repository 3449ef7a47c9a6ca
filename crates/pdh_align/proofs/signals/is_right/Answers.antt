use Rattle.std.proofs.Common.{◌≡◌, take, drop, sym, ap, ◌∙◌, arith}
use Rattle.pdh_align.proofs.SignalLaws.{right_by_number}
use Rattle.pdh_align.proofs.signals.is_right.Goals as goal

pub returns-then-SIGNAL-gt0 : goal.returns-then-SIGNAL-gt0
returns-then-SIGNAL-gt0 g c =
    let s = g.S.Shape.shape in
    let read : c.read.result ≡ take s.signal (drop c.args.start c.args.held.now.bits) =
    c.read.ensures ∙ ap (λ n. take n (drop c.args.start c.args.held.now.bits)) (c.SIGNAL-then-SIGNAL-gt0.ensures ∙ sym g.met.S.Shape.signal_is) in
    right_by_number s c.args.held.now.bits c.read.result c.args.start g.S.Shape.LEN c.number.result c.args.signals.now.number g.met.S.Shape.has_signal (omega (arith, c.if-SIGNAL-gt0.true, c.SIGNAL.ensures, g.met.S.Shape.signal_is))
    g.met.S.Shape.len_is c.requires.whole read c.number.ensures.value c.requires.judges.number
