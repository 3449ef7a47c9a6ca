use Rattle.std.proofs.Common.{sym, ap, ◌∙◌, subst}
use Rattle.pdh_ds1.specs.declared.align.Ds1Align.{Ds1Align}
use Rattle.pdh_ds1.specs.View.{form_of, StandsFor, superframes_in}
use Rattle.pdh_ds1.proofs.align.Ds1Align.superframes.Goals as goal

pub returns-in-Super : goal.returns-in-Super
returns-in-Super c = λ line h.
    let here = subst (λ (a : Ds1Align). StandsFor a line) c.in-Super.is h in
    c.superframes.ensures line here ∙ ap (λ (a : Ds1Align). superframes_in (form_of a) line) (sym c.in-Super.is)

pub returns-in-Extended : goal.returns-in-Extended
returns-in-Extended c = λ line h.
    let here = subst (λ (a : Ds1Align). StandsFor a line) c.in-Extended.is h in
    c.superframes-in-Extended.ensures line here ∙ ap (λ (a : Ds1Align). superframes_in (form_of a) line) (sym c.in-Extended.is)
