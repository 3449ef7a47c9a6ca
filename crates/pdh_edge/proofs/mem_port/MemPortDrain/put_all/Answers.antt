use Rattle.std.proofs.Common.{◌≡◌, ◌<◌, ◌++◌, Bool, List, length, take, drop, Some, refl, ap, ◌∙◌, subst, arith, slice_get, slice_set}
use Rattle.std.proofs.lemmas.List.{take_all, take-append-drop, length-take-le}
use Rattle.std.proofs.lemmas.Option.{slice_get_read}
use Rattle.pdh_packed.specs.Words.{bounded}
use Rattle.pdh_edge.specs.Ports.{PutsPart, for_leaf}
use Rattle.pdh_edge.specs.MemLists.{items_of, mem_outputs}
use Rattle.pdh_edge.proofs.ListSteps.{within_lists, was_put, part_put, put_stays, full_stays, had_room_for, was_cut_short, same_holds}
use Rattle.pdh_edge.proofs.mem_port.MemPortDrain.put_all.Goals as goal

pub returns-clause-ok : goal.returns-clause-ok
returns-clause-ok c =
    let outputs = c.args.self.now.outputs.items in
    let list = c.index_mut.result.now in
    let bits = c.args.bits.now.bits in
    let within : c.args.leaf < length outputs = within_lists items_of outputs c.args.leaf c.requires in
    let at : slice_get outputs c.args.leaf ≡ Some list = slice_get_read _ _ c.args.leaf _ refl within c.index_mut.ensures.value in
    let all : c.append_some-put.result ≡ length bits = omega (arith, c.append_some-put.ensures.count, c.if-put-len.false, c.len.ensures.count) in
    let grown = c.append_some-put.ensures.bits ∙ ap (λ n. bounded list.capacity (list.bits ++ take n bits)) all ∙ ap (λ more. bounded list.capacity (list.bits ++ more)) (take_all (length bits) bits (omega arith)) in
    was_put outputs c.args.leaf list c.append_some-put.new.self bits within at grown

pub returns-clause-drained : goal.returns-clause-drained
returns-clause-drained c =
    let outputs = c.args.self.now.outputs.items in
    let list = c.index_mut.result.now in
    let within : c.args.leaf < length outputs = within_lists items_of outputs c.args.leaf c.requires in
    let at : slice_get outputs c.args.leaf ≡ Some list = slice_get_read _ _ c.args.leaf _ refl within c.index_mut.ensures.value in (
      refl,
      omega arith,
      same_holds outputs c.args.leaf c.append_some-put.new.self,
      refl,
      put_stays outputs c.args.leaf list c.append_some-put.new.self (take c.append_some-put.result c.args.bits.now.bits) within at c.append_some-put.ensures.bits c.args.self.now.faults,
    )

pub returns-clause-put : goal.returns-clause-put
returns-clause-put c =
    let outputs = c.args.self.now.outputs.items in
    let list = c.index_mut.result.now in
    let bits = c.args.bits.now.bits in
    let within : c.args.leaf < length outputs = within_lists items_of outputs c.args.leaf c.requires in
    let at : slice_get outputs c.args.leaf ≡ Some list = slice_get_read _ _ c.args.leaf _ refl within c.index_mut.ensures.value in
    had_room_for outputs c.args.leaf list within at (length bits) c.args.self.now.faults (omega (arith, c.append_some-put.ensures.within, c.if-put-len.false, c.len.ensures.count))

pub returns-then-put-len-clause-err : goal.returns-then-put-len-clause-err
returns-then-put-len-clause-err c =
    let outputs = c.args.self.now.outputs.items in
    let list = c.index_mut.result.now in
    let bits = c.args.bits.now.bits in
    let within : c.args.leaf < length outputs = within_lists items_of outputs c.args.leaf c.requires in
    let at : slice_get outputs c.args.leaf ≡ Some list = slice_get_read _ _ c.args.leaf _ refl within c.index_mut.ensures.value in
    let new = c.append_some-put.new.self in
    let put = c.append_some-put.result in
    subst (λ (all : List Bool). PutsPart (for_leaf c.args.leaf all) (mem_outputs outputs) (mem_outputs (slice_set outputs c.args.leaf new))) (take-append-drop put bits)
    (part_put outputs c.args.leaf list new (take put bits) within at c.append_some-put.ensures.bits (drop put bits))

pub returns-then-put-len-clause-drained : goal.returns-then-put-len-clause-drained
returns-then-put-len-clause-drained c =
    let outputs = c.args.self.now.outputs.items in
    let list = c.index_mut.result.now in
    let bits = c.args.bits.now.bits in
    let within : c.args.leaf < length outputs = within_lists items_of outputs c.args.leaf c.requires in
    let at : slice_get outputs c.args.leaf ≡ Some list = slice_get_read _ _ c.args.leaf _ refl within c.index_mut.ensures.value in
    let put = c.append_some-put.result in
    let long : length (take put bits) ≡ put = length-take-le put bits (omega (arith, c.append_some-put.ensures.count)) in (
      refl,
      omega (arith, c.saturating_add-self.ensures),
      same_holds outputs c.args.leaf c.append_some-put.new.self,
      refl,
      full_stays outputs c.args.leaf list c.append_some-put.new.self (take put bits) within at c.append_some-put.ensures.bits c.args.self.now.faults c.saturating_add-self.result
          (omega (arith, long, c.append_some-put.ensures.count, c.if-put-len.true, c.len.ensures.count)),
    )

pub returns-then-put-len-clause-refused : goal.returns-then-put-len-clause-refused
returns-then-put-len-clause-refused c =
    let outputs = c.args.self.now.outputs.items in
    let list = c.index_mut.result.now in
    let within : c.args.leaf < length outputs = within_lists items_of outputs c.args.leaf c.requires in
    let at : slice_get outputs c.args.leaf ≡ Some list = slice_get_read _ _ c.args.leaf _ refl within c.index_mut.ensures.value in
    was_cut_short outputs c.args.leaf list within at c.append_some-put.new.self c.args.bits.now.bits c.append_some-put.result c.args.self.now.faults c.saturating_add-self.result
    (omega (arith, c.append_some-put.ensures.count, c.if-put-len.true, c.len.ensures.count)) (omega (arith, c.if-put-len.true, c.len.ensures.count)) c.append_some-put.ensures.bits c.saturating_add-self.ensures
