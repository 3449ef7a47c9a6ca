use Rattle.std.proofs.Common.{◌≡◌, ◌<◌, ◌+◌, Bool, List, ◌++◌, length, map, take, drop, length-drop, Some, refl, sym, ap, ◌∙◌, subst, arith, slice_get, slice_set}
use Rattle.std.proofs.lemmas.List.{length-map, map-set, length-take-le, take-append-drop, drop-drop}
use Rattle.std.proofs.lemmas.Option.{slice_get_read, slice_get-map}
use Rattle.pdh_packed.specs.Gaining.{gained}
use Rattle.pdh_packed.proofs.GainingLaws.{gained_is, grown_by}
use Rattle.pdh_edge.specs.Ports.{Takes, for_leaf}
use Rattle.pdh_edge.specs.MemLists.{rest_of, inputs_of}
use Rattle.pdh_edge.proofs.ListSteps.{within_lists, takes_front}
use Rattle.pdh_edge.proofs.Waits.{gives_all, none_left}
use Rattle.pdh_edge.proofs.mem_port.MemPortFeed.bits.Goals as goal

pub returns-then-list-len-clause-grown : goal.returns-then-list-len-clause-grown
returns-then-list-len-clause-grown c =
    let list = c.index_mut-list.result.now in
    let n = c.min-count.result in
    let long : length (take n (rest_of list)) ≡ n = length-take-le n (rest_of list) (omega (arith, c.min-count.ensures, c.len-then-list-len.ensures.count, length-drop list.given list.bits.bits)) in
    grown_by c.args.into.now c.append_from.new.self (take n (rest_of list)) n c.append_from.ensures long

pub returns-then-list-len-clause-ok : goal.returns-then-list-len-clause-ok
returns-then-list-len-clause-ok c =
    let inputs = c.args.self.now.inputs.items in
    let list = c.index_mut-list.result.now in
    let n = c.min-count.result in
    let xs : List Bool = rest_of list in
    let within : c.args.leaf < length inputs = within_lists rest_of inputs c.args.leaf c.requires.held in
    let at : slice_get inputs c.args.leaf ≡ Some list = slice_get_read _ _ c.args.leaf _ refl within c.index_mut-list.ensures.value in
    let here : slice_get (map rest_of inputs) c.args.leaf ≡ Some (take n xs ++ drop n xs) = slice_get-map rest_of inputs c.args.leaf ∙ (rw at (ap Some (sym (take-append-drop n xs)))) in
    let rest : drop n xs ≡ drop (list.given + n) list.bits.bits = drop-drop n list.given list.bits.bits in
    let takes : Takes (for_leaf c.args.leaf (take n xs)) (inputs_of (map rest_of inputs)) (inputs_of (slice_set (map rest_of inputs) c.args.leaf (drop n xs))) =
    takes_front (map rest_of inputs) c.args.leaf (take n xs) (drop n xs) (omega (arith, length-map inputs rest_of, within)) here in
    let got : gained c.args.into.now c.append_from.new.self ≡ take n xs = gained_is c.args.into.now c.append_from.new.self (take n xs) c.append_from.ensures in
    let P : List (List Bool) → Type 0 = λ l. Takes (for_leaf c.args.leaf (gained c.args.into.now c.append_from.new.self)) (inputs_of (map rest_of inputs)) (inputs_of l) in
    subst P (sym (map-set rest_of inputs c.args.leaf _ ∙ ap (slice_set (map rest_of inputs) c.args.leaf) (sym rest)))
    (subst (λ bits. Takes (for_leaf c.args.leaf bits) (inputs_of (map rest_of inputs)) (inputs_of (slice_set (map rest_of inputs) c.args.leaf (drop n xs)))) (sym got) takes)

pub returns-then-list-len-clause-waits : goal.returns-then-list-len-clause-waits
returns-then-list-len-clause-waits c = gives_all c.args.leaf (gained c.args.into.now c.append_from.new.self) (returns-then-list-len-clause-ok c)

pub returns-clause-ended : goal.returns-clause-ended
returns-clause-ended c =
    let list = c.index_mut-list.result.now in
    let inputs = c.args.self.now.inputs.items in
    let at : slice_get inputs c.args.leaf ≡ Some list = slice_get_read _ _ c.args.leaf _ refl (within_lists rest_of inputs c.args.leaf c.requires.held) c.index_mut-list.ensures.value in
    λ ended. none_left inputs c.args.leaf list at (omega (arith, c.if-list-len.false, c.len.ensures.count))

pub returns-clause-sure : goal.returns-clause-sure
returns-clause-sure c = λ some. let none = returns-clause-ended c refl in absurd (omega (arith, none, some))
