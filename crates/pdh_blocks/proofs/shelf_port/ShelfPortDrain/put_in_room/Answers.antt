use Rattle.std.proofs.Common.{◌≡◌, ◌<◌, ◌+◌, ◌++◌, List, Bool, length, Some, slice_get, slice_set, refl, sym, ap, subst, arith}
use Rattle.std.specs.Option.{option_map_or}
use Rattle.std.proofs.lemmas.Option.{slice_get_read}
use Rattle.std.proofs.lemmas.Bool.{ltb-true}
use Rattle.pdh_edge.specs.Ports.{Puts, for_leaf}
use Rattle.pdh_blocks.specs.Leaves.{Output, to_wait}
use Rattle.pdh_blocks.specs.State.{over}
use Rattle.pdh_blocks.specs.Lists.{outputs_of, room_of}
use Rattle.pdh_blocks.specs.Held.{IsPort}
use Rattle.pdh_blocks.specs.Kept.{Drains}
use Rattle.pdh_blocks.specs.laws.PortLaws.{drains_join}
use Rattle.pdh_blocks.proofs.Places.{get_set_other}
use Rattle.pdh_blocks.proofs.Waits.{used, used_port, used_drains, fewer, put_holds, put_room, put_drains, put_puts}
use Rattle.pdh_blocks.proofs.shelf_port.ShelfPortDrain.put_in_room.Goals as goal

pub take_all-requires : goal.take_all-requires
take_all-requires g c =
    let a = over (g.S.Shelf.state c.args.self.now.shelf) c.args.self.now.blocks in
    let k = c.args.leaf in
    let old : Output = c.index_mut.result.now in
    let at : slice_get a.outputs k ≡ Some old = slice_get_read _ _ k _ refl (ltb-true _ _ c.requires.held) c.index_mut.ensures.value in
    let more : List Bool = c.args.bits.now.bits in
    let few : length old.waiting + length more < 32768 = fewer a k old more at c.args.self.now.port.room c.requires.room in
    omega (arith, few)

pub invariant_of-self-2 : goal.invariant_of-self-2
invariant_of-self-2 g c =
    let a = over (g.S.Shelf.state c.args.self.now.shelf) c.args.self.now.blocks in
    let k = c.args.leaf in
    let old : Output = c.index_mut.result.now in
    let at : slice_get a.outputs k ≡ Some old = slice_get_read _ _ k _ refl (ltb-true _ _ c.requires.held) c.index_mut.ensures.value in
    let more : List Bool = c.args.bits.now.bits in
    let port = used_port a c.args.self.now.port in
    let few : length old.waiting + length more < 32768 = fewer a k old more at c.args.self.now.port.room c.requires.room in
    let b = used a in
    let now : IsPort (record b { outputs = slice_set b.outputs k (to_wait (old.waiting ++ more) old) }) =
    record { blocks = put_holds b k old more port.blocks at; room = put_room b k old more port.blocks at port.room few } in
    let is = subst (λ (new : Output). IsPort (record b { outputs = slice_set b.outputs k new })) (sym c.take_all.ensures) now in
    ((c.args.self.now.blocks.block, tt), (is, tt))

pub returns-clause-put : goal.returns-clause-put
returns-clause-put g c =
    let a = over (g.S.Shelf.state c.args.self.now.shelf) c.args.self.now.blocks in
    let k = c.args.leaf in
    let old : Output = c.index_mut.result.now in
    let at : slice_get a.outputs k ≡ Some old = slice_get_read _ _ k _ refl (ltb-true _ _ c.requires.held) c.index_mut.ensures.value in
    let more : List Bool = c.args.bits.now.bits in
    let port = used_port a c.args.self.now.port in
    let b = used a in
    subst (λ (new : Output). Puts (for_leaf k more) (outputs_of a) (outputs_of (record b { outputs = slice_set b.outputs k new }))) (sym c.take_all.ensures) (put_puts b k old more port.blocks at)

pub returns-clause-others : goal.returns-clause-others
returns-clause-others g c j ne = ap (λ found. option_map_or room_of found 0) (get_set_other c.args.self.now.blocks.outputs.items c.args.leaf j c.take_all.new.self ne)

pub returns-clause-drained : goal.returns-clause-drained
returns-clause-drained g c =
    let a = over (g.S.Shelf.state c.args.self.now.shelf) c.args.self.now.blocks in
    let k = c.args.leaf in
    let old : Output = c.index_mut.result.now in
    let at : slice_get a.outputs k ≡ Some old = slice_get_read _ _ k _ refl (ltb-true _ _ c.requires.held) c.index_mut.ensures.value in
    let more : List Bool = c.args.bits.now.bits in
    let port = used_port a c.args.self.now.port in
    let b = used a in
    drains_join (used_drains a) (subst (λ (new : Output). Drains b (record b { outputs = slice_set b.outputs k new })) (sym c.take_all.ensures) (put_drains b k old more port.blocks at))
