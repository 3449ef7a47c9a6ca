use Rattle.std.proofs.Common.{sym, ap, ◌∙◌, arith, Some, None, cond}
use Rattle.pdh_tx.specs.Node.{carried_by}
use Rattle.pdh_tx.proofs.decisions.carried.Goals as goal

pub returns-in-Info-clause-known : goal.returns-in-Info-clause-known
returns-in-Info-clause-known g c =
    let known = g.met.S.Shape.has_tributaries.info_known c.args.slot c.in-Info.trib (omega (arith, c.requires, g.met.S.Shape.len_is)) (sym c.in-Info.ensures) in
    omega (arith, known, g.met.S.Shape.tribs_is)

pub returns-then-more-clause-known : goal.returns-then-more-clause-known
returns-then-more-clause-known g c =
    let known = g.met.S.Shape.has_tributaries.just_known c.args.slot c.in-Just.trib (omega (arith, c.requires, g.met.S.Shape.len_is)) (sym c.in-Just.ensures) in
    omega (arith, known, g.met.S.Shape.tribs_is)

pub returns-then-more-clause-carried : goal.returns-then-more-clause-carried
returns-then-more-clause-carried g c =
    sym (ap (carried_by (g.D.Decisions.shares c.args.decisions.now)) (sym c.in-Just.ensures) ∙ ap (λ b. cond b (Some c.in-Just.trib) None) (sym c.more.ensures ∙ c.if-more.true))

pub returns-else-more-clause-carried : goal.returns-else-more-clause-carried
returns-else-more-clause-carried g c =
    sym (ap (carried_by (g.D.Decisions.shares c.args.decisions.now)) (sym c.in-Just.ensures) ∙ ap (λ b. cond b (Some c.in-Just.trib) None) (sym c.more.ensures ∙ c.if-more.false))
