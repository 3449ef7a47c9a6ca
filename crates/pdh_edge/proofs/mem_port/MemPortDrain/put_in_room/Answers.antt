use Rattle.std.proofs.Common.{◌≡◌, ◌<◌, ◌++◌, length, take, Some, refl, ap, ◌∙◌, arith, slice_get}
use Rattle.std.proofs.lemmas.List.{take_all}
use Rattle.std.proofs.lemmas.Option.{slice_get_read}
use Rattle.pdh_packed.specs.Words.{bounded}
use Rattle.pdh_edge.specs.MemLists.{items_of}
use Rattle.pdh_edge.proofs.ListSteps.{within_lists, was_put, put_stays, same_holds, left_here, others_room}
use Rattle.pdh_edge.proofs.mem_port.MemPortDrain.put_in_room.Goals as goal

pub returns-clause-put : goal.returns-clause-put
returns-clause-put c =
    let outputs = c.args.self.now.outputs.items in
    let list = c.index_mut.result.now in
    let bits = c.args.bits.now.bits in
    let within : c.args.leaf < length outputs = within_lists items_of outputs c.args.leaf c.requires.held in
    let at : slice_get outputs c.args.leaf ≡ Some list = slice_get_read _ _ c.args.leaf _ refl within c.index_mut.ensures.value in
    let all : c.append_some.result ≡ length bits = omega (arith, c.append_some.ensures.count, c.requires.room, left_here outputs c.args.leaf list within at) in
    let grown = c.append_some.ensures.bits ∙ ap (λ n. bounded list.capacity (list.bits ++ take n bits)) all ∙ ap (λ more. bounded list.capacity (list.bits ++ more)) (take_all (length bits) bits (omega arith)) in
    was_put outputs c.args.leaf list c.append_some.new.self bits within at grown

pub returns-clause-others : goal.returns-clause-others
returns-clause-others c =
    let outputs = c.args.self.now.outputs.items in
    let list = c.index_mut.result.now in
    let within : c.args.leaf < length outputs = within_lists items_of outputs c.args.leaf c.requires.held in
    let at : slice_get outputs c.args.leaf ≡ Some list = slice_get_read _ _ c.args.leaf _ refl within c.index_mut.ensures.value in
    others_room outputs c.args.leaf list c.append_some.new.self (take c.append_some.result c.args.bits.now.bits) within at c.append_some.ensures.bits

pub returns-clause-drained : goal.returns-clause-drained
returns-clause-drained c =
    let outputs = c.args.self.now.outputs.items in
    let list = c.index_mut.result.now in
    let within : c.args.leaf < length outputs = within_lists items_of outputs c.args.leaf c.requires.held in
    let at : slice_get outputs c.args.leaf ≡ Some list = slice_get_read _ _ c.args.leaf _ refl within c.index_mut.ensures.value in (
      refl,
      omega arith,
      same_holds outputs c.args.leaf c.append_some.new.self,
      refl,
      put_stays outputs c.args.leaf list c.append_some.new.self (take c.append_some.result c.args.bits.now.bits) within at c.append_some.ensures.bits c.args.self.now.faults,
    )
