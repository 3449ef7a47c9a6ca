use Rattle.std.proofs.Common.{◌≡◌, refl, sym, ap, ◌∙◌, arith}
use Rattle.pdh_packed.specs.Words.{bounded}
use Rattle.pdh_align.specs.Aligning.{Held, frame_back}
use Rattle.pdh_rx.proofs.strip.take_frame.Goals as goal

pub returns-then-exchange_frame-clause-frame : goal.returns-then-exchange_frame-clause-frame
returns-then-exchange_frame-clause-frame g c =
    let first : 0 ≡ c.args.back = omega (arith, c.requires.ready, c.if-exchange_frame.ensures.one.0 refl) in
    (c.if-exchange_frame.ensures.exchanged refl).0 ∙ ap (λ k. bounded c.args.frame.now.capacity (frame_back c.args.aligner.now.ready k)) first

pub returns-then-exchange_frame-clause-whole : goal.returns-then-exchange_frame-clause-whole
returns-then-exchange_frame-clause-whole g c = c.if-exchange_frame.ensures.whole refl

pub returns-then-exchange_frame-clause-aligner : goal.returns-then-exchange_frame-clause-aligner
returns-then-exchange_frame-clause-aligner g c =
    let is = (c.if-exchange_frame.ensures.exchanged refl).1 in
    is ∙ ap (λ r. record c.args.aligner.now { ready = r }) (sym (ap (λ (h : Held). h.ready) is))

pub returns-then-exchange_frame-clause-ready : goal.returns-then-exchange_frame-clause-ready
returns-then-exchange_frame-clause-ready g c more = absurd (omega (arith, more, c.if-exchange_frame.ensures.one.0 refl))
