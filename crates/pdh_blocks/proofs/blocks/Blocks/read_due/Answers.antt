use Rattle.std.proofs.Common.{◌≡◌, ℕ, ◌<◌, [], length, Option, Some, slice_get, slice_set, refl, ap, ◌∙◌, sym, subst, arith}
use Rattle.std.proofs.lemmas.Option.{slice_get_read, same_Some}
use Rattle.pdh_edge.specs.declared.shelf.Call.TheVariants.{Read}
use Rattle.pdh_edge.specs.Counts.{one_more}
use Rattle.pdh_edge.specs.Files.{TellsFailed}
use Rattle.pdh_blocks.specs.Leaves.{Leaf, IsNextBlock}
use Rattle.pdh_blocks.specs.State.{over}
use Rattle.pdh_blocks.specs.Held.{IsLeaf, IsLastCall}
use Rattle.pdh_blocks.specs.Done.{ReadsAtMost}
use Rattle.pdh_blocks.proofs.Results.{at_ok, at_err}
use Rattle.pdh_blocks.proofs.Places.{get_set_same}
use Rattle.pdh_blocks.proofs.Reading.{read_done, read_failed, read_leaf, nothing_waits}
use Rattle.pdh_blocks.proofs.InBlock.{waits_here, waits_read}
use Rattle.pdh_blocks.proofs.blocks.Blocks.read_due.Goals as goal

pub returns-then-is_ok-clause-done : goal.returns-then-is_ok-clause-done
returns-then-is_ok-clause-done g c =
    let a = over (g.S.Shelf.state c.args.shelf.now) c.args.self.now in
    let s = g.S.Shelf.state c.read.new.shelf in
    let k = c.args.leaf in
    let old : Leaf = c.index_mut-list.result.now in
    let new : Leaf = c.read.new.self in
    let at : slice_get a.leaves k ≡ Some old = slice_get_read _ _ k _ refl c.requires.held c.index_mut-list.ensures.value in
    let was : IsLeaf a.shelf old = c.requires.port.blocks.leaves k old at in
    let ok = sym c.is_ok.ensures.value ∙ c.if-is_ok.true in
    let read = at_ok c.read.result ok c.read.ensures.ok in
    let none : old.waiting ≡ [] = nothing_waits old.waiting (sym c.waits.ensures ∙ c.if-waits.false) in
    let more : old.given < old.bits = omega (arith, c.left.ensures, c.if-left-eq0.false) in
    let is = subst (IsLeaf a.shelf) read.leaf (read_leaf a.shelf old new was none more read) in
    subst (λ (leaf : Leaf). ReadsAtMost a (record a { shelf = s; leaves = slice_set a.leaves k leaf })) (sym read.leaf)
    (read_done a s k old new.waiting c.requires.port at c.read.ensures.looks is (at_ok c.read.result ok c.read.ensures.succeeds))

pub returns-then-is_ok-clause-ok : goal.returns-then-is_ok-clause-ok
returns-then-is_ok-clause-ok g c leaf found =
    let leaves = c.args.self.now.leaves.items in
    let k = c.args.leaf in
    let old : Leaf = c.index_mut-list.result.now in
    let new : Leaf = c.read.new.self in
    let read = at_ok c.read.result (sym c.is_ok.ensures.value ∙ c.if-is_ok.true) c.read.ensures.ok in
    let same : new ≡ leaf = same_Some new leaf (sym (get_set_same leaves k new c.requires.held) ∙ found) in
    omega (arith, read.count, c.left.ensures, c.if-left-eq0.false, ap (λ (leaf : Leaf). length leaf.waiting) same)

pub returns-clause-done : goal.returns-clause-done
returns-clause-done g c =
    let a = over (g.S.Shelf.state c.args.shelf.now) c.args.self.now in
    let s = g.S.Shelf.state c.read.new.shelf in
    let k = c.args.leaf in
    let old : Leaf = c.index_mut-list.result.now in
    let at : slice_get a.leaves k ≡ Some old = slice_get_read _ _ k _ refl c.requires.held c.index_mut-list.ensures.value in
    let was : IsLeaf a.shelf old = c.requires.port.blocks.leaves k old at in
    let no = sym c.is_ok.ensures.value ∙ c.if-is_ok.false in
    let same = at_err c.read.result no c.read.ensures.same in
    let faults : ℕ = one_more a.feed_faults in
    let failed : Option ℕ = Some k in
    rw c.feed_failed.ensures.counted
    (subst (λ (leaf : Leaf). ReadsAtMost a (record a { shelf = s; leaves = slice_set a.leaves k leaf; feed_faults = faults; failed = failed })) (sym same)
    (read_failed a s k old old.waiting c.requires.port at c.read.ensures.looks was faults failed c.feed_failed.ensures.fits c.read.ensures.fits refl refl (at_err c.read.result no c.read.ensures.err).fails.fails))

pub returns-clause-cause : goal.returns-clause-cause
returns-clause-cause g c = rw c.feed_failed.ensures.counted refl

pub returns-then-is_ok-clause-waits : goal.returns-then-is_ok-clause-waits
returns-then-is_ok-clause-waits g c =
    let leaves = c.args.self.now.leaves.items in
    let k = c.args.leaf in
    let old : Leaf = c.index_mut-list.result.now in
    let at : slice_get leaves k ≡ Some old = slice_get_read _ _ k _ refl c.requires.held c.index_mut-list.ensures.value in
    let none : old.waiting ≡ [] = nothing_waits old.waiting (sym c.waits.ensures ∙ c.if-waits.false) in
    waits_read leaves k 0 old c.read.new.self at (ap length none)

pub returns-clause-sure : goal.returns-clause-sure
returns-clause-sure g c some =
    let leaves = c.args.self.now.leaves.items in
    let k = c.args.leaf in
    let old : Leaf = c.index_mut-list.result.now in
    let at : slice_get leaves k ≡ Some old = slice_get_read _ _ k _ refl c.requires.held c.index_mut-list.ensures.value in
    let none : old.waiting ≡ [] = nothing_waits old.waiting (sym c.waits.ensures ∙ c.if-waits.false) in
    absurd (omega (arith, waits_here leaves k old at, ap length none, some))

pub returns-clause-unread : goal.returns-clause-unread
returns-clause-unread g c =
    let old : Leaf = c.index_mut-list.result.now in
    let new : Leaf = c.read.new.self in
    let no = sym c.is_ok.ensures.value ∙ c.if-is_ok.false in
    let bad = at_err c.read.result no c.read.ensures.err in
    let this : (leaf : Leaf) → slice_get (slice_set c.args.self.now.leaves.items c.args.leaf new) c.args.leaf ≡ Some leaf → old ≡ leaf =
    λ leaf found. sym (at_err c.read.result no c.read.ensures.same) ∙ same_Some new leaf (sym (get_set_same c.args.self.now.leaves.items c.args.leaf new c.requires.held) ∙ found) in
    rw c.feed_failed.ensures.counted
    (λ failed. record {
      range = bad.range;
      block = λ leaf found. subst (λ (leaf : Leaf). IsNextBlock leaf.given bad.range) (this leaf found) bad.block;
      last = λ leaf found. subst (λ (leaf : Leaf). IsLastCall (g.S.Shelf.state c.read.new.shelf) Read leaf.name) (this leaf found) bad.fails.fails.last;
      asked = λ leaf found. subst (λ (leaf : Leaf). TellsFailed ((g.S.Shelf.state c.read.new.shelf).tells_name leaf.name) bad.range (g.S.Shelf.state c.read.new.shelf).failed_range) (this leaf found) bad.fails.asked;
    })
