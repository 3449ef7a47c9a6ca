use Rattle.std.proofs.Common.{refl, sym, ap, ◌∙◌, subst}
use Rattle.pdh_ds1.specs.declared.align.Ds1Align.{Ds1Align}
use Rattle.pdh_ds1.specs.View.{form_of, StandsFor, errors_in}
use Rattle.pdh_ds1.proofs.align.Ds1Align.errored.Goals as goal

pub returns-in-Extended : goal.returns-in-Extended
returns-in-Extended c = λ line h.
    let here = subst (λ (a : Ds1Align). StandsFor a line) c.in-Extended.is h in
    c.errored.ensures refl line here ∙ ap (λ (a : Ds1Align). errors_in (form_of a) line) (sym c.in-Extended.is)
