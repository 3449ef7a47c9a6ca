use Rattle.std.proofs.Common.{subst}
use Rattle.pdh_ds1.specs.declared.align.Ds1Align.{Ds1Align}
use Rattle.pdh_ds1.specs.View.{StandsFor}
use Rattle.pdh_ds1.proofs.align.Ds1Align.take.Goals as goal

pub take-requires-clause-stands : goal.take-requires-clause-stands
take-requires-clause-stands g c =
    let line = c.requires.stands.0 in
    (line, subst (λ (a : Ds1Align). StandsFor a line) c.in-Super.is c.requires.stands.1)

pub take-requires-in-Extended-clause-stands : goal.take-requires-in-Extended-clause-stands
take-requires-in-Extended-clause-stands g c =
    let line = c.requires.stands.0 in
    (line, subst (λ (a : Ds1Align). StandsFor a line) c.in-Extended.is c.requires.stands.1)
