use Rattle.std.proofs.Common.{◌≡◌, [], length, sym, ap, subst, ◌∙◌}
use Rattle.pdh_rx.specs.Node.{EachStands}
use Rattle.pdh_rx.proofs.NodeSteps.{opened}
use Rattle.pdh_rx.proofs.NodePlays.{opened_stands}
use Rattle.pdh_rx.proofs.node.RxNode.open.Goals as goal

pub returns-clause-stands : goal.returns-clause-stands
returns-clause-stands g c =
    let are : c.new.result ≡ c.args.children.items = c.new.ensures in
    opened_stands g.C.Rx.stands g.C.Rx.meaning g.S.Shape.shape g.met.S.Shape.is_frame _ _ _ _
    (opened g.C.Rx.stands g.C.Rx.meaning g.S.Shape.shape g.met.S.Shape.is_frame _ _ (ap length are ∙ c.requires.count ∙ sym g.met.S.Shape.tribs_is)
    (subst (λ cs. EachStands g.C.Rx.stands cs (λ j. [])) (sym are) c.requires.fresh) c.in_ok-aligner.ensures.stands)
    (c.new-2.ensures.long ∙ c.LEN.ensures ∙ sym g.met.S.Shape.len_is) c.new-2.ensures.none c.in_ok-teller.ensures
