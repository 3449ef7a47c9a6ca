use Rattle.std.proofs.Common.{◌≡◌, sym, subst, inl, inr, arith}
use Rattle.pdh_align.specs.Aligning.{Held, StandsFor}
use Rattle.pdh_ds1.specs.Superframe.{in_superframe}
use Rattle.pdh_ds1_events.proofs.line.go_on.Goals as goal

pub returns-then-passed-gt0-clause-idles : goal.returns-then-passed-gt0-clause-idles
returns-then-passed-gt0-clause-idles g c line stands = inr (c.pass-passed.ensures.passes c.if-passed-gt0.true line stands)

pub returns-clause-idles : goal.returns-clause-idles
returns-clause-idles g c line stands =
    let none : c.pass-passed.result ≡ 0 = omega (arith, c.if-passed-gt0.false) in
    inl (c.take.ensures.waits line (subst (λ (h : Held). StandsFor (in_superframe g.P.InSuperframe.f_bits g.P.InSuperframe.PLAN) h line) (sym (c.pass-passed.ensures.none none)) stands))
