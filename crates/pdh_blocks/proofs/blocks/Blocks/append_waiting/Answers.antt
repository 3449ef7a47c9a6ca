use Rattle.std.proofs.Common.{◌≡◌, ℕ, ◌+◌, ◌<◌, ◌≤◌, [], List, Bool, length, Option, Some, Ok, Err, slice_get, slice_set, refl, ap, ◌∙◌, sym, subst, arith}
use Rattle.std.proofs.lemmas.Option.{slice_get_read, same_Some}
use Rattle.pdh_edge.specs.declared.shelf.Failed.{Failed}
use Rattle.pdh_edge.specs.Counts.{one_more}
use Rattle.pdh_blocks.specs.Leaves.{Output, to_wait, past_bytes, IsAppended, IsEmptied}
use Rattle.pdh_blocks.specs.State.{over}
use Rattle.pdh_blocks.specs.Done.{AppendsWaiting}
use Rattle.pdh_blocks.proofs.Results.{at_ok, at_err}
use Rattle.pdh_blocks.proofs.Places.{get_set_same, get_set_other}
use Rattle.pdh_blocks.proofs.Appending.{append_done, append_failed, past_short}
use Rattle.pdh_blocks.proofs.blocks.Blocks.append_waiting.Goals as goal

pub returns-then-is_ok-clause-done : goal.returns-then-is_ok-clause-done
returns-then-is_ok-clause-done g c =
    let a = over (g.S.Shelf.state c.args.shelf.now) c.args.self.now in
    let s = g.S.Shelf.state c.append-appended.new.shelf in
    let old : Output = c.index_mut.result.now in
    let among : c.args.leaf < length a.outputs = omega (arith, c.requires.held, c.requires.blocks.begun, c.requires.blocks.among) in
    let at : slice_get a.outputs c.args.leaf ≡ Some old = slice_get_read _ _ c.args.leaf _ refl among c.index_mut.ensures.value in
    let appended = at_ok c.append-appended.result (sym c.is_ok.ensures.value ∙ c.if-is_ok.true) c.append-appended.ensures.ok in
    let waiting : List Bool = past_bytes old.waiting in
    let own = subst (λ (new : Output). IsAppended old new a.shelf s) appended.rest appended in
    subst (λ (new : Output). AppendsWaiting {T = Unit {0}} {E = Failed} a (record a { shelf = s; outputs = slice_set a.outputs c.args.leaf new }) (Ok tt)) (sym appended.rest)
    (append_done a s c.args.leaf old waiting c.requires.blocks at c.append-appended.ensures.kept c.requires.started c.requires.held c.requires.room (omega (arith, past_short old.waiting)) tt refl own)

pub returns-then-is_ok-clause-ok : goal.returns-then-is_ok-clause-ok
returns-then-is_ok-clause-ok g c output found =
    let outputs = c.args.self.now.outputs.items in
    let new : Output = c.append-appended.new.self in
    let among : c.args.leaf < length outputs = omega (arith, c.requires.held, c.requires.blocks.begun, c.requires.blocks.among) in
    let same : new ≡ output = same_Some new output (sym (get_set_same outputs c.args.leaf new among) ∙ found) in
    let appended = at_ok c.append-appended.result (sym c.is_ok.ensures.value ∙ c.if-is_ok.true) c.append-appended.ensures.ok in
    let old : Output = c.index_mut.result.now in
    let short : length (past_bytes old.waiting) ≤ 7 = past_short old.waiting in
    let is : output ≡ to_wait (past_bytes old.waiting) old = sym same ∙ appended.rest in
    omega (arith, short, ap (λ (output : Output). length output.waiting) is)

pub returns-then-is_ok-clause-others : goal.returns-then-is_ok-clause-others
returns-then-is_ok-clause-others g c j ne = get_set_other c.args.self.now.outputs.items c.args.leaf j c.append-appended.new.self ne

pub returns-clause-done : goal.returns-clause-done
returns-clause-done g c =
    let a = over (g.S.Shelf.state c.args.shelf.now) c.args.self.now in
    let s = g.S.Shelf.state c.append-appended.new.shelf in
    let old : Output = c.index_mut.result.now in
    let among : c.args.leaf < length a.outputs = omega (arith, c.requires.held, c.requires.blocks.begun, c.requires.blocks.among) in
    let at : slice_get a.outputs c.args.leaf ≡ Some old = slice_get_read _ _ c.args.leaf _ refl among c.index_mut.ensures.value in
    let emptied = at_err c.append-appended.result (sym c.is_ok.ensures.value ∙ c.if-is_ok.false) c.append-appended.ensures.err in
    let own = subst (λ (new : Output). IsEmptied old new a.shelf s) emptied.rest emptied in
    let faults : ℕ = one_more a.drain_faults in
    let failed : Option ℕ = Some (length a.leaves + c.args.leaf) in
    rw c.drain_failed.ensures.counted
    (subst (λ (new : Output). AppendsWaiting {T = Unit {0}} {E = Failed} a (record a { shelf = s; outputs = slice_set a.outputs c.args.leaf new; drain_faults = faults; failed = failed }) (Err c.drain_failed.result)) (sym emptied.rest)
    (append_failed a s c.args.leaf old [] c.requires.blocks at c.append-appended.ensures.kept c.requires.started c.requires.held c.requires.room (omega arith) c.drain_failed.result faults failed refl c.drain_failed.ensures.fits c.append-appended.ensures.fits refl refl own))

pub returns-clause-others : goal.returns-clause-others
returns-clause-others g c j ne = rw c.drain_failed.ensures.counted (get_set_other c.args.self.now.outputs.items c.args.leaf j c.append-appended.new.self ne)
