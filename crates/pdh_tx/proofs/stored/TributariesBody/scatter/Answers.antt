use Rattle.std.proofs.Common.{ap, map, sym, ◌∙◌}
use Rattle.pdh_tx.proofs.FrameStarts.{meanings as meanings_of}
use Rattle.pdh_tx.proofs.GatherSlots.{left_over, scattered_before, scattered_here}
use Rattle.pdh_tx.proofs.stored.TributariesBody.scatter.Goals as goal

pub scatter_all-requires : goal.scatter_all-requires
scatter_all-requires g c = (let placed = c.requires.placed in record { left = left_over g.met.S.Shape.tribs_is c.args.self.now placed.0 placed.1 placed.2 placed.3 placed.4 placed.5 })

pub returns-clause-placed : goal.returns-clause-placed
returns-clause-placed g c path plan n t within was =
    let back = c.scatter_all.ensures in
    scattered_before g.met.S.Shape.tribs_is c.args.self.now path plan n t within was c.scatter_all.new.self back.child back.shares back.queues back.store

pub returns-clause-held : goal.returns-clause-held
returns-clause-held g c path plan supply n t within was held =
    let back = c.scatter_all.ensures in
    scattered_here g.met.S.Shape.tribs_is c.args.self.now path plan n t within was c.scatter_all.new.self back.child back.shares back.queues back.store supply held

pub returns-clause-same : goal.returns-clause-same
returns-clause-same g c =
    let tx = g.C.Tx in
    meanings_of tx c.scatter_all.new.self.list.items ∙ ap (map tx.meaning) c.scatter_all.ensures.child ∙ sym (meanings_of tx c.args.self.now.list.items)
