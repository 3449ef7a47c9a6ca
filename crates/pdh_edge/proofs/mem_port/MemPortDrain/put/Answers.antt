use Rattle.std.proofs.Common.{◌≡◌, ◌<◌, [], ◌∷◌, length, Some, refl, arith, slice_get}
use Rattle.std.proofs.lemmas.Option.{slice_get_read}
use Rattle.pdh_edge.specs.MemLists.{items_of}
use Rattle.pdh_edge.proofs.ListSteps.{within_lists, was_put, part_put, put_stays, full_stays, nothing_put, had_room, was_refused, same_holds}
use Rattle.pdh_edge.proofs.mem_port.MemPortDrain.put.Goals as goal

pub returns-then-len-capacity-clause-ok : goal.returns-then-len-capacity-clause-ok
returns-then-len-capacity-clause-ok c =
    let outputs = c.args.self.now.outputs.items in
    let list = c.index_mut-list.result.now in
    let within : c.args.leaf < length outputs = within_lists items_of outputs c.args.leaf c.requires in
    let at : slice_get outputs c.args.leaf ≡ Some list = slice_get_read _ _ c.args.leaf _ refl within c.index_mut-list.ensures.value in
    was_put outputs c.args.leaf list c.push.new.self (c.args.bit ∷ []) within at c.push.ensures

pub returns-then-len-capacity-clause-drained : goal.returns-then-len-capacity-clause-drained
returns-then-len-capacity-clause-drained c =
    let outputs = c.args.self.now.outputs.items in
    let list = c.index_mut-list.result.now in
    let within : c.args.leaf < length outputs = within_lists items_of outputs c.args.leaf c.requires in
    let at : slice_get outputs c.args.leaf ≡ Some list = slice_get_read _ _ c.args.leaf _ refl within c.index_mut-list.ensures.value in (
      refl,
      omega arith,
      same_holds outputs c.args.leaf c.push.new.self,
      refl,
      put_stays outputs c.args.leaf list c.push.new.self (c.args.bit ∷ []) within at c.push.ensures c.args.self.now.faults,
    )

pub returns-then-len-capacity-clause-put : goal.returns-then-len-capacity-clause-put
returns-then-len-capacity-clause-put c =
    let outputs = c.args.self.now.outputs.items in
    let list = c.index_mut-list.result.now in
    let within : c.args.leaf < length outputs = within_lists items_of outputs c.args.leaf c.requires in
    let at : slice_get outputs c.args.leaf ≡ Some list = slice_get_read _ _ c.args.leaf _ refl within c.index_mut-list.ensures.value in
    had_room outputs c.args.leaf list within at c.args.self.now.faults (omega (arith, c.if-len-capacity.true, c.len.ensures.count, c.capacity.ensures))

pub returns-clause-drained : goal.returns-clause-drained
returns-clause-drained c =
    let outputs = c.args.self.now.outputs.items in
    let list = c.index_mut-list.result.now in
    let within : c.args.leaf < length outputs = within_lists items_of outputs c.args.leaf c.requires in
    let at : slice_get outputs c.args.leaf ≡ Some list = slice_get_read _ _ c.args.leaf _ refl within c.index_mut-list.ensures.value in (
      refl,
      omega (arith, c.saturating_add-self.ensures),
      same_holds outputs c.args.leaf list,
      refl,
      full_stays outputs c.args.leaf list list [] within at (nothing_put outputs c.args.leaf list within at) c.args.self.now.faults c.saturating_add-self.result
          (omega (arith, c.if-len-capacity.false, c.len.ensures.count, c.capacity.ensures)),
    )

pub returns-clause-refused : goal.returns-clause-refused
returns-clause-refused c =
    let outputs = c.args.self.now.outputs.items in
    let list = c.index_mut-list.result.now in
    let within : c.args.leaf < length outputs = within_lists items_of outputs c.args.leaf c.requires in
    let at : slice_get outputs c.args.leaf ≡ Some list = slice_get_read _ _ c.args.leaf _ refl within c.index_mut-list.ensures.value in
    was_refused outputs c.args.leaf list within at c.args.self.now.faults c.saturating_add-self.result (omega (arith, c.if-len-capacity.false, c.len.ensures.count, c.capacity.ensures)) c.saturating_add-self.ensures

pub returns-clause-err : goal.returns-clause-err
returns-clause-err c =
    let outputs = c.args.self.now.outputs.items in
    let list = c.index_mut-list.result.now in
    let within : c.args.leaf < length outputs = within_lists items_of outputs c.args.leaf c.requires in
    let at : slice_get outputs c.args.leaf ≡ Some list = slice_get_read _ _ c.args.leaf _ refl within c.index_mut-list.ensures.value in
    part_put outputs c.args.leaf list list [] within at (nothing_put outputs c.args.leaf list within at) (c.args.bit ∷ [])
