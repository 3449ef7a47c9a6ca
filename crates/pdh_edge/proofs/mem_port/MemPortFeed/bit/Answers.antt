use Rattle.std.proofs.Common.{◌≡◌, ◌<◌, ◌+◌, false, Bool, List, [], ◌∷◌, length, map, drop, Some, refl, sym, ap, ◌∙◌, subst, arith, slice_get}
use Rattle.std.proofs.lemmas.List.{length-map, map-set, drop_more}
use Rattle.std.proofs.lemmas.Option.{slice_get_read, slice_get-map}
use Rattle.pdh_edge.specs.Ports.{Takes, GivesWaiting, for_leaf}
use Rattle.pdh_edge.specs.MemLists.{rest_of, inputs_of, mem_inputs}
use Rattle.pdh_edge.proofs.ListSteps.{within_lists, takes_front, set_found}
use Rattle.pdh_edge.proofs.Waits.{gives_all, gives_none, none_left}
use Rattle.pdh_edge.proofs.mem_port.MemPortFeed.bit.Goals as goal

pub returns-clause-ok : goal.returns-clause-ok
returns-clause-ok c =
    let inputs = c.args.self.now.inputs.items in
    let list = c.index_mut-list.result.now in
    let bit = c.get-bit.result in
    let rest : List Bool = drop (list.given + 1) list.bits.bits in
    let within : c.args.leaf < length inputs = within_lists rest_of inputs c.args.leaf c.requires in
    let some : list.given < length list.bits.bits = omega (arith, c.if-list-len.false, c.len.ensures.count) in
    let at : slice_get inputs c.args.leaf ≡ Some list = slice_get_read _ _ c.args.leaf _ refl within c.index_mut-list.ensures.value in
    let first : rest_of list ≡ bit ∷ rest = drop_more list.bits.bits list.given false some ∙ ap (λ b. b ∷ rest) (sym c.get-bit.ensures) in
    let here : slice_get (map rest_of inputs) c.args.leaf ≡ Some (bit ∷ rest) = slice_get-map rest_of inputs c.args.leaf ∙ (rw at (ap Some first)) in
    let P : List (List Bool) → Type 0 = λ l. Takes (for_leaf c.args.leaf (bit ∷ [])) (inputs_of (map rest_of inputs)) (inputs_of l) in
    subst P (sym (map-set rest_of inputs c.args.leaf _)) (takes_front (map rest_of inputs) c.args.leaf (bit ∷ []) rest (omega (arith, length-map inputs rest_of, within)) here)

pub returns-then-list-len-clause-ended : goal.returns-then-list-len-clause-ended
returns-then-list-len-clause-ended c =
    let list = c.index_mut-list.result.now in
    let inputs = c.args.self.now.inputs.items in
    let at : slice_get inputs c.args.leaf ≡ Some list = slice_get_read _ _ c.args.leaf _ refl (within_lists rest_of inputs c.args.leaf c.requires) c.index_mut-list.ensures.value in
    λ ended. none_left inputs c.args.leaf list at (omega (arith, c.if-list-len.true, c.len.ensures.count))

pub returns-then-list-len-clause-waits : goal.returns-then-list-len-clause-waits
returns-then-list-len-clause-waits c =
    let list = c.index_mut-list.result.now in
    let inputs = c.args.self.now.inputs.items in
    let waits = (mem_inputs inputs).left in
    let at : slice_get inputs c.args.leaf ≡ Some list = slice_get_read _ _ c.args.leaf _ refl (within_lists rest_of inputs c.args.leaf c.requires) c.index_mut-list.ensures.value in
    let none = none_left inputs c.args.leaf list at (omega (arith, c.if-list-len.true, c.len.ensures.count)) in
    subst (λ lists. GivesWaiting c.args.leaf 1 waits (mem_inputs lists).left) (sym (set_found inputs c.args.leaf list at)) (gives_none c.args.leaf 1 waits none)

pub returns-clause-waits : goal.returns-clause-waits
returns-clause-waits c = gives_all c.args.leaf (c.get-bit.result ∷ []) (returns-clause-ok c)
