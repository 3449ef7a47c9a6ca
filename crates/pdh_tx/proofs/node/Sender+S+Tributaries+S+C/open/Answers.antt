use Rattle.std.proofs.Common.{map, ap, ◌∙◌}
use Rattle.pdh_tx.specs.Node.{node_meaning}
use Rattle.pdh_tx.proofs.FrameStarts.{meanings}
use Rattle.pdh_tx.proofs.Opening.{opened_before, opened_holds}
use Rattle.pdh_tx.proofs.node.Sender+S+Tributaries+S+C.open.Goals as goal

pub returns-clause-meaning : goal.returns-clause-meaning
returns-clause-meaning g c =
    c.over.ensures.meaning ∙ ap (node_meaning g.S.Shape.shape c.args.path) (meanings g.C.Tx c.in_ok-open.field-0.list.items ∙ ap (map g.C.Tx.meaning) c.in_ok-open.ensures.children)

pub over-requires-clause-placed : goal.over-requires-clause-placed
over-requires-clause-placed g c plan =
    opened_before g.C.Tx g.S.Shape.shape c.in_ok-open.field-0.stores c.args.path c.args.children.items c.in_ok-open.field-0.list.items c.in_ok-open.ensures.children c.in_ok-open.ensures.empty c.requires.fresh plan

pub over-requires-clause-held : goal.over-requires-clause-held
over-requires-clause-held g c supply =
    opened_holds g.C.Tx g.S.Shape.shape c.in_ok-open.field-0.stores c.args.path c.args.children.items c.in_ok-open.field-0.list.items c.in_ok-open.ensures.children c.in_ok-open.ensures.empty c.requires.fresh supply
