use Rattle.pdh_locked.proofs.Opening.{opened_before, opened_holds}
use Rattle.pdh_locked.proofs.locked.open_locked.Goals as goal

pub over-requires-clause-placed : goal.over-requires-clause-placed
over-requires-clause-placed g c plan = opened_before g.C.Tx g.S.Shape.shape c.args.path c.args.children.items c.requires.fresh plan

pub over-requires-clause-held : goal.over-requires-clause-held
over-requires-clause-held g c supply = opened_holds g.C.Tx g.S.Shape.shape c.args.path c.args.children.items c.requires.fresh supply
