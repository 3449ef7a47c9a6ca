use Rattle.std.proofs.Common.{refl}
use Rattle.pdh_chain.specs.declared.chain.Chain.TheVariants.{E12, E23, E34, E13, E24, E14, M12, M23, M13, C13}
use Rattle.pdh_show.proofs.Joins.{shows_chain}
use Rattle.pdh_show.proofs.by_chain.show.Goals as goal

pub returns-in-E12-clause-ok : goal.returns-in-E12-clause-ok
returns-in-E12-clause-ok g c = shows_chain c.args.chain E12 _ _ c.name-name.result.now c.args.number c.shown_as.result _ _ c.in-E12.is refl refl c.name-name.ensures.value c.shown_as.ensures.ok

pub returns-in-E23-clause-ok : goal.returns-in-E23-clause-ok
returns-in-E23-clause-ok g c = shows_chain c.args.chain E23 _ _ c.name-name.result.now c.args.number c.shown_as-in-E23.result _ _ c.in-E23.is refl refl c.name-name.ensures.value c.shown_as-in-E23.ensures.ok

pub returns-in-E34-clause-ok : goal.returns-in-E34-clause-ok
returns-in-E34-clause-ok g c = shows_chain c.args.chain E34 _ _ c.name-name.result.now c.args.number c.shown_as-in-E34.result _ _ c.in-E34.is refl refl c.name-name.ensures.value c.shown_as-in-E34.ensures.ok

pub returns-in-E13-clause-ok : goal.returns-in-E13-clause-ok
returns-in-E13-clause-ok g c = shows_chain c.args.chain E13 _ _ c.name-name.result.now c.args.number c.shown_as-in-E13.result _ _ c.in-E13.is refl refl c.name-name.ensures.value c.shown_as-in-E13.ensures.ok

pub returns-in-E24-clause-ok : goal.returns-in-E24-clause-ok
returns-in-E24-clause-ok g c = shows_chain c.args.chain E24 _ _ c.name-name.result.now c.args.number c.shown_as-in-E24.result _ _ c.in-E24.is refl refl c.name-name.ensures.value c.shown_as-in-E24.ensures.ok

pub returns-in-E14-clause-ok : goal.returns-in-E14-clause-ok
returns-in-E14-clause-ok g c = shows_chain c.args.chain E14 _ _ c.name-name.result.now c.args.number c.shown_as-in-E14.result _ _ c.in-E14.is refl refl c.name-name.ensures.value c.shown_as-in-E14.ensures.ok

pub returns-in-M12-clause-ok : goal.returns-in-M12-clause-ok
returns-in-M12-clause-ok g c = shows_chain c.args.chain M12 _ _ c.name-name.result.now c.args.number c.shown_as-in-M12.result _ _ c.in-M12.is refl refl c.name-name.ensures.value c.shown_as-in-M12.ensures.ok

pub returns-in-M23-clause-ok : goal.returns-in-M23-clause-ok
returns-in-M23-clause-ok g c = shows_chain c.args.chain M23 _ _ c.name-name.result.now c.args.number c.shown_as-in-M23.result _ _ c.in-M23.is refl refl c.name-name.ensures.value c.shown_as-in-M23.ensures.ok

pub returns-in-M13-clause-ok : goal.returns-in-M13-clause-ok
returns-in-M13-clause-ok g c = shows_chain c.args.chain M13 _ _ c.name-name.result.now c.args.number c.shown_as-in-M13.result _ _ c.in-M13.is refl refl c.name-name.ensures.value c.shown_as-in-M13.ensures.ok

pub returns-in-C13-clause-ok : goal.returns-in-C13-clause-ok
returns-in-C13-clause-ok g c = shows_chain c.args.chain C13 _ _ c.name-name.result.now c.args.number c.shown_as-in-C13.result _ _ c.in-C13.is refl refl c.name-name.ensures.value c.shown_as-in-C13.ensures.ok
