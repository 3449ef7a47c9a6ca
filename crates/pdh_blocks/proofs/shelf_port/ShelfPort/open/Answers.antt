use Rattle.std.proofs.Common.{sym, subst}
use Rattle.pdh_blocks.specs.Held.{IsPort}
use Rattle.pdh_blocks.proofs.Beginning.{opened_port}
use Rattle.pdh_blocks.proofs.shelf_port.ShelfPort.open.Goals as goal

pub invariant_of-result : goal.invariant_of-result
invariant_of-result g c =
    let shelf = g.S.Shelf.state c.args.shelf in
    record { port = subst IsPort (sym (c.in-Ok.ensures shelf)) (opened_port shelf c.args.reads.now c.args.writes.now c.requires) }
