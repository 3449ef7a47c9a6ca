use Rattle.std.proofs.Common.{◌≡◌, ◌-◌, ◌<◌, length, Option, Some, slice_get, refl, ap, arith}
use Rattle.std.specs.Option.{option_map_or}
use Rattle.std.proofs.lemmas.Option.{slice_get_read}
use Rattle.std.proofs.lemmas.Bool.{ltb-true}
use Rattle.pdh_blocks.specs.Leaves.{Leaf}
use Rattle.pdh_blocks.specs.State.{over}
use Rattle.pdh_blocks.specs.Lists.{left_of}
use Rattle.pdh_blocks.proofs.shelf_port.ShelfPortFeed.left.Goals as goal

pub left-requires : goal.left-requires
left-requires g c =
    let a = over (g.S.Shelf.state c.args.self.now.shelf) c.args.self.now.blocks in
    let k = c.args.leaf in
    let leaf : Leaf = c.index.result.now in
    let within : k < length a.leaves = ltb-true _ _ c.requires in
    let at : slice_get a.leaves k ≡ Some leaf = slice_get_read _ _ k _ refl within c.index.ensures in
    omega (arith, (c.args.self.now.port.blocks.leaves k leaf at).within)

pub returns : goal.returns
returns g c =
    let a = over (g.S.Shelf.state c.args.self.now.shelf) c.args.self.now.blocks in
    let k = c.args.leaf in
    let leaf : Leaf = c.index.result.now in
    let within : k < length a.leaves = ltb-true _ _ c.requires in
    let at : slice_get a.leaves k ≡ Some leaf = slice_get_read _ _ k _ refl within c.index.ensures in
    let is : option_map_or left_of (slice_get a.leaves k) 0 ≡ leaf.bits - leaf.given = ap (λ (o : Option Leaf). option_map_or left_of o 0) at in
    omega (arith, is, c.left.ensures, c.left.type_inv)
