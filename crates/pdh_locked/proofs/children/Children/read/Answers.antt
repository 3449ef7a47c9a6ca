use Rattle.std.proofs.Common.{rules, ◌≡◌, ℕ, Err, refl, sym, ap, ◌∙◌, subst, arith}
use Rattle.std.proofs.lemmas.List.{length-set}
use Rattle.std.proofs.lemmas.Option.{slice_get_read}
use Rattle.std.proofs.Math.Seq.{map-set_same}
use Rattle.pdh_shape.specs.Tributary.{turned}
use Rattle.pdh_tx.specs.Meaning.{plan_in}
use Rattle.pdh_tx.specs.Node.{slips_below, IsDisjoint}
use Rattle.pdh_tx.proofs.Gaining.{if_err_from}
use Rattle.pdh_tx.proofs.Telling.{tells_err, tells_ok, tells_same}
use Rattle.pdh_locked.proofs.Filled.{fed_one}
use Rattle.pdh_locked.proofs.OneSlot.{xor_turned}
use Rattle.pdh_locked.proofs.Reading.{maker, reads_one, reads_stops}
use Rattle.pdh_locked.proofs.children.Children.read.Goals as goal

pub next-requires-clause-running : goal.next-requires-clause-running
next-requires-clause-running g c =
    let here = slice_get_read _ _ c.args.trib _ refl (omega (arith, c.requires.trib, c.args.self.now.count)) c.index_mut.ensures.value in
    (c.requires.placed.1 c.args.trib _ here).runs

pub next-requires-clause-fed : goal.next-requires-clause-fed
next-requires-clause-fed g c =
    let here = slice_get_read _ _ c.args.trib _ refl (omega (arith, c.requires.trib, c.args.self.now.count)) c.index_mut.ensures.value in
    fed_one c.args.self.now c.args.clock.now (g.F.Feed.inputs c.args.feed.now) c.args.trib _ (maker g.C.Tx (plan_in c.args.clock.now g.G.SlipLog.takes) c.args.self.now.list.items c.args.trib _ c.requires.placed.0 c.args.self.now.disjoint here) c.requires.fed

pub next-requires-clause-stands : goal.next-requires-clause-stands
next-requires-clause-stands g c =
    let here = slice_get_read _ _ c.args.trib _ refl (omega (arith, c.requires.trib, c.args.self.now.count)) c.index_mut.ensures.value in
    (c.requires.placed.0 c.args.trib, (c.requires.placed.1 c.args.trib _ here).place)

pub invariant_of-self-clause-count : goal.invariant_of-self-clause-count
invariant_of-self-clause-count g c = length-set c.args.self.now.list.items c.args.trib c.next.new.self ∙ c.args.self.now.count

pub invariant_of-self-clause-disjoint : goal.invariant_of-self-clause-disjoint
invariant_of-self-clause-disjoint g c =
    subst IsDisjoint (sym (map-set_same g.C.Tx.meaning c.args.self.now.list.items c.args.trib c.next.new.self c.index_mut.result.now (c.next.ensures.kept.same ∙ ap g.C.Tx.meaning c.index_mut.ensures.value))) c.args.self.now.disjoint

pub returns-clause-same : goal.returns-clause-same
returns-clause-same g c = map-set_same g.C.Tx.meaning c.args.self.now.list.items c.args.trib c.next.new.self c.index_mut.result.now (c.next.ensures.kept.same ∙ ap g.C.Tx.meaning c.index_mut.ensures.value)

pub returns-in_err-bit-clause-same : goal.returns-in_err-bit-clause-same
returns-in_err-bit-clause-same g c = map-set_same g.C.Tx.meaning c.args.self.now.list.items c.args.trib c.next.new.self c.index_mut.result.now (c.next.ensures.kept.same ∙ ap g.C.Tx.meaning c.index_mut.ensures.value)

pub returns-clause-read : goal.returns-clause-read
returns-clause-read g c made each =
    let i : ℕ = c.args.trib in
    let here = slice_get_read _ _ i _ refl (omega (arith, c.requires.trib, c.args.self.now.count)) c.index_mut.ensures.value in
    reads_one g.C.Tx (plan_in c.args.clock.now g.G.SlipLog.takes) c.args.self.now.list.items i _ made c.args.self.now.disjoint here g.S.Shape.shape c.next.new.self c.in_ok-bit.bit _ _ _ each c.next.ensures.kept.same_says c.in_ok-bit.ensures.stopped
    (xor_turned c.in_ok-bit.bit c.inverted.result ∙ ap (λ b. turned b c.in_ok-bit.bit) c.inverted.ensures)
    (c.in_ok-bit.ensures.made (made i) (each i _ here).place)

pub returns-in_err-bit-clause-stop : goal.returns-in_err-bit-clause-stop
returns-in_err-bit-clause-stop g c =
    let e : c.from_residual.result ≡ Err c.in_err-bit.field-0.0 = search rules in
    let i : ℕ = c.args.trib in
    let here = slice_get_read _ _ i _ refl (omega (arith, c.requires.trib, c.args.self.now.count)) c.index_mut.ensures.value in
    if_err_from c.from_residual.result _ c.in_err-bit.field-0.0 e
    (λ made each. reads_stops g.C.Tx (plan_in c.args.clock.now g.G.SlipLog.takes) c.args.self.now.list.items i _ made c.args.self.now.disjoint here _ _ _ _ _ (λ child x k. g.met.C.Tx.grows child _ x k) (c.in_err-bit.ensures.stops (made i) (each i _ here).place))

pub returns-clause-told : goal.returns-clause-told
returns-clause-told g c made each =
    let i : ℕ = c.args.trib in
    let plan = plan_in c.args.clock.now g.G.SlipLog.takes in
    let here = slice_get_read _ _ i _ refl (omega (arith, c.requires.trib, c.args.self.now.count)) c.index_mut.ensures.value in
    let at = maker g.C.Tx plan c.args.self.now.list.items i _ made c.args.self.now.disjoint here in
    tells_same _ _ (ap (λ o. slips_below o plan (made i)) at) (tells_ok _ (c.in_ok-bit.ensures.told (made i) (each i _ here).place).all)

pub returns-in_err-bit-clause-told : goal.returns-in_err-bit-clause-told
returns-in_err-bit-clause-told g c made each =
    let i : ℕ = c.args.trib in
    let plan = plan_in c.args.clock.now g.G.SlipLog.takes in
    let e : c.from_residual.result ≡ Err c.in_err-bit.field-0.0 = search rules in
    let here = slice_get_read _ _ i _ refl (omega (arith, c.requires.trib, c.args.self.now.count)) c.index_mut.ensures.value in
    let at = maker g.C.Tx plan c.args.self.now.list.items i _ made c.args.self.now.disjoint here in
    tells_same _ _ (ap (λ o. slips_below o plan (made i)) at)
    (tells_err c.from_residual.result c.in_err-bit.field-0.0 e (c.in_err-bit.ensures.told (made i) (each i _ here).place).front)
