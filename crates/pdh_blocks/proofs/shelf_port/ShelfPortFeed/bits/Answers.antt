use Rattle.std.proofs.Common.{◌≡◌, ℕ, ◌<◌, ◌≤◌, List, Bool, length, take, Some, slice_get, slice_set, refl, ap, ◌∙◌, sym, subst, arith}
use Rattle.std.proofs.lemmas.Option.{slice_get_read}
use Rattle.std.proofs.lemmas.Bool.{ltb-true}
use Rattle.std.proofs.lemmas.List.{length-take-le}
use Rattle.std.proofs.lemmas.Result.{err_from_is_err_and}
use Rattle.pdh_packed.specs.Gaining.{gained}
use Rattle.pdh_packed.proofs.GainingLaws.{gained_is}
use Rattle.pdh_edge.specs.Ports.{Takes, GivesWaiting, for_leaf}
use Rattle.pdh_blocks.specs.Leaves.{Leaf, after_giving}
use Rattle.pdh_blocks.specs.State.{PortState, over}
use Rattle.pdh_blocks.specs.Lists.{inputs_of, waits_in}
use Rattle.pdh_blocks.specs.Held.{IsPort}
use Rattle.pdh_blocks.specs.Kept.{Feeds}
use Rattle.pdh_blocks.specs.laws.PortLaws.{feeds_join, same_leaves}
use Rattle.pdh_blocks.proofs.Giving.{takes_none, takes_after, give_port, give_feeds, give_takes}
use Rattle.pdh_blocks.proofs.InBlock.{waits_given, waits_after}
use Rattle.pdh_blocks.proofs.shelf_port.ShelfPortFeed.bits.Goals as goal

pub returns-in_err-make_due-clause-err : goal.returns-in_err-make_due-clause-err
returns-in_err-make_due-clause-err g c =
    let p = err_from_is_err_and c.from_residual.result c.from_residual.ensures.1 in
    rw p.1 (takes_none _ _ c.in_err-make_due.ensures.done.inputs)

pub give-requires-clause-within : goal.give-requires-clause-within
give-requires-clause-within g c =
    let a = over (g.S.Shelf.state c.make_due.new.shelf) c.make_due.new.self in
    let k = c.args.leaf in
    let old : Leaf = c.index_mut.result.now in
    let done = c.in_ok-make_due.ensures.done in
    let within : k < length a.leaves = omega (arith, ltb-true _ _ c.requires.held, same_leaves done.feeds.keeps) in
    let at : slice_get a.leaves k ≡ Some old = slice_get_read _ _ k _ refl within c.index_mut.ensures.value in
    (done.port.blocks.leaves k old at).within

pub invariant_of-self-2 : goal.invariant_of-self-2
invariant_of-self-2 g c =
    let a = over (g.S.Shelf.state c.make_due.new.shelf) c.make_due.new.self in
    let k = c.args.leaf in
    let old : Leaf = c.index_mut.result.now in
    let done = c.in_ok-make_due.ensures.done in
    let within : k < length a.leaves = omega (arith, ltb-true _ _ c.requires.held, same_leaves done.feeds.keeps) in
    let at : slice_get a.leaves k ≡ Some old = slice_get_read _ _ k _ refl within c.index_mut.ensures.value in
    let few : c.give.result ≤ length old.waiting = omega (arith, c.give.ensures.count) in
    let now = subst (λ (leaf : Leaf). IsPort (record a { leaves = slice_set a.leaves k leaf })) (sym c.give.ensures.leaf) (give_port a k old c.give.result done.port at few) in
    ((c.make_due.new.self.block, tt), (now, tt))

pub returns-clause-count : goal.returns-clause-count
returns-clause-count g c =
    let a = over (g.S.Shelf.state c.make_due.new.shelf) c.make_due.new.self in
    let k = c.args.leaf in
    let old : Leaf = c.index_mut.result.now in
    let done = c.in_ok-make_due.ensures.done in
    let within : k < length a.leaves = omega (arith, ltb-true _ _ c.requires.held, same_leaves done.feeds.keeps) in
    let at : slice_get a.leaves k ≡ Some old = slice_get_read _ _ k _ refl within c.index_mut.ensures.value in
    let some : 0 < length old.waiting = c.in_ok-make_due.ensures.ok old at in
    (omega (arith, some, c.give.ensures.count, c.requires.some), omega (arith, c.give.ensures.count))

pub returns-clause-ok : goal.returns-clause-ok
returns-clause-ok g c =
    let a = over (g.S.Shelf.state c.make_due.new.shelf) c.make_due.new.self in
    let k = c.args.leaf in
    let old : Leaf = c.index_mut.result.now in
    let done = c.in_ok-make_due.ensures.done in
    let within : k < length a.leaves = omega (arith, ltb-true _ _ c.requires.held, same_leaves done.feeds.keeps) in
    let at : slice_get a.leaves k ≡ Some old = slice_get_read _ _ k _ refl within c.index_mut.ensures.value in
    let n = c.give.result in
    let few : n ≤ length old.waiting = omega (arith, c.give.ensures.count) in
    let first : take n old.waiting ≡ gained c.args.into.now c.give.new.into = sym (gained_is c.args.into.now c.give.new.into (take n old.waiting) c.give.ensures.given) in
    let b : PortState = record a { leaves = slice_set a.leaves k (after_giving n old) } in
    let takes = subst (λ (bits : List Bool). Takes (for_leaf k bits) (inputs_of a) (inputs_of b)) first (give_takes a k old n done.port at few) in
    let now = subst (λ (leaf : Leaf). Takes (for_leaf k (gained c.args.into.now c.give.new.into)) (inputs_of a) (inputs_of (record a { leaves = slice_set a.leaves k leaf }))) (sym c.give.ensures.leaf) takes in
    takes_after _ _ _ _ done.inputs now

pub returns-clause-fed : goal.returns-clause-fed
returns-clause-fed g c =
    let a = over (g.S.Shelf.state c.make_due.new.shelf) c.make_due.new.self in
    let k = c.args.leaf in
    let old : Leaf = c.index_mut.result.now in
    let done = c.in_ok-make_due.ensures.done in
    let within : k < length a.leaves = omega (arith, ltb-true _ _ c.requires.held, same_leaves done.feeds.keeps) in
    let at : slice_get a.leaves k ≡ Some old = slice_get_read _ _ k _ refl within c.index_mut.ensures.value in
    let n = c.give.result in
    let few : n ≤ length old.waiting = omega (arith, c.give.ensures.count) in
    let now = subst (λ (leaf : Leaf). Feeds a (record a { leaves = slice_set a.leaves k leaf })) (sym c.give.ensures.leaf) (give_feeds a k old n done.port at few) in
    feeds_join done.feeds now

pub returns-clause-waits : goal.returns-clause-waits
returns-clause-waits g c =
    let k = c.args.leaf in
    let leaves = c.make_due.new.self.leaves.items in
    let old : Leaf = c.index_mut.result.now in
    let within : k < length leaves = omega (arith, ltb-true _ _ c.requires.held, same_leaves c.in_ok-make_due.ensures.done.feeds.keeps) in
    let at : slice_get leaves k ≡ Some old = slice_get_read _ _ k _ refl within c.index_mut.ensures.value in
    let n = c.give.result in
    let few : n ≤ length old.waiting = omega (arith, c.give.ensures.count) in
    let long : length (gained c.args.into.now c.give.new.into) ≡ n = ap length (gained_is c.args.into.now c.give.new.into (take n old.waiting) c.give.ensures.given) ∙ length-take-le n old.waiting few in
    let given = subst (λ (leaf : Leaf). GivesWaiting k n (waits_in leaves) (waits_in (slice_set leaves k leaf))) (sym c.give.ensures.leaf) (waits_given leaves k n old at few) in
    subst (λ (n : ℕ). GivesWaiting k n (waits_in c.args.self.now.blocks.leaves.items) (waits_in (slice_set leaves k c.give.new.self))) (sym long)
    (waits_after k n _ (waits_in leaves) _ c.in_ok-make_due.ensures.waits given)
