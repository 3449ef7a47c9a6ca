use Rattle.std.proofs.Common.{subst}
use Rattle.pdh_ds1.specs.declared.packer.Ds1Packer.{Ds1Packer}
use Rattle.pdh_ds1.specs.View.{PacksFor}
use Rattle.pdh_ds1.proofs.packer.Ds1Packer.take.Goals as goal

pub take-requires-clause-stands : goal.take-requires-clause-stands
take-requires-clause-stands g c =
    let payload = c.requires.stands.0 in
    (payload, subst (λ (a : Ds1Packer). PacksFor a payload) c.in-Super.is c.requires.stands.1)

pub take-requires-in-Extended-clause-stands : goal.take-requires-in-Extended-clause-stands
take-requires-in-Extended-clause-stands g c =
    let payload = c.requires.stands.0 in
    (payload, subst (λ (a : Ds1Packer). PacksFor a payload) c.in-Extended.is c.requires.stands.1)
