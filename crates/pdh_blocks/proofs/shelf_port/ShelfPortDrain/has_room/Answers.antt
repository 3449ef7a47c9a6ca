use Rattle.std.proofs.Common.{◌≡◌, Some, slice_get, refl, arith}
use Rattle.std.proofs.lemmas.Option.{slice_get_read}
use Rattle.std.proofs.lemmas.Bool.{ltb-true}
use Rattle.pdh_blocks.specs.State.{over}
use Rattle.pdh_blocks.proofs.Waits.{room_at}
use Rattle.pdh_blocks.proofs.shelf_port.ShelfPortDrain.has_room.Goals as goal

pub returns : goal.returns
returns g c enough =
    let a = over (g.S.Shelf.state c.args.self.now.shelf) c.args.self.now.blocks in
    let k = c.args.leaf in
    let at : slice_get a.outputs k ≡ Some c.index.result.now = slice_get_read _ _ k _ refl (ltb-true _ _ c.requires) c.index.ensures in
    omega (arith, room_at a k c.index.result.now at, c.len.ensures.count, c.len.ensures.bounded, ltb-true _ _ enough)
