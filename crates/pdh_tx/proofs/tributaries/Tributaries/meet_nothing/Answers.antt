use Rattle.std.proofs.Common.{◌≡◌, ◌<◌, length, below_more, refl, sym, ◌∙◌, subst, arith, Some, slice_get}
use Rattle.std.proofs.lemmas.Option.{slice_get_read}
use Rattle.pdh_tx.specs.Meaning.{plan_in}
use Rattle.pdh_tx.specs.Quiet.{MeetsNothing}
use Rattle.pdh_tx.proofs.Feeding.{fed_one}
use Rattle.pdh_tx.proofs.Lists.{some_same}
use Rattle.pdh_tx.proofs.Moving.{inside}
use Rattle.pdh_tx.proofs.tributaries.Tributaries.meet_nothing.Goals as goal

pub meets_nothing-requires-clause-stores : goal.meets_nothing-requires-clause-stores
meets_nothing-requires-clause-stores g c = c.args.self.now.stores

pub meets_nothing-requires-clause-fed : goal.meets_nothing-requires-clause-fed
meets_nothing-requires-clause-fed g c =
    let within : c.loop-trib.trib < length c.args.self.now.list.items = omega (arith, c.loop-trib-test.true, c.args.self.now.count) in
    let at : slice_get c.args.self.now.list.items c.loop-trib.trib ≡ Some c.index.result.now = slice_get_read _ _ c.loop-trib.trib _ refl within c.index.ensures in
    fed_one c.args.self.now c.args.next.path c.args.clock.now (g.F.Feed.inputs c.args.feed.now) c.loop-trib.trib c.index.result.now at c.requires.fed

pub meets_nothing-requires-clause-stands : goal.meets_nothing-requires-clause-stands
meets_nothing-requires-clause-stands g c =
    let within : c.loop-trib.trib < length c.args.self.now.list.items = omega (arith, c.loop-trib-test.true, c.args.self.now.count) in
    let at : slice_get c.args.self.now.list.items c.loop-trib.trib ≡ Some c.index.result.now = slice_get_read _ _ c.loop-trib.trib _ refl within c.index.ensures in
    record {
      placed = c.requires.placed.made c.loop-trib.trib c.index.result.now at;
      decided = λ h. c.requires.placed.decided h c.loop-trib.trib c.index.result.now at;
    }

pub loop-trib-preserved : goal.loop-trib-preserved
loop-trib-preserved g c =
    let ws = c.args.self.now.list.items in
    let plan = plan_in c.args.clock.now g.G.SlipLog.takes in
    let trib = c.loop-trib.trib in
    let within : trib < length ws = omega (arith, c.loop-trib-test.true, c.args.self.now.count) in
    let at : slice_get ws trib ≡ Some c.index.result.now = slice_get_read _ _ trib _ refl within c.index.ensures in
    let meets = c.meets_nothing.ensures c.if-not-meets_nothing.false in
    below_more (λ j. (w : _) → slice_get ws j ≡ Some w → MeetsNothing g.C.Tx g.S.Shape.shape w j plan c.args.next (g.F.Feed.inputs c.args.feed.now)) trib c.loop-trib.invariant
    (λ w e. subst (λ v. MeetsNothing g.C.Tx g.S.Shape.shape v trib plan c.args.next (g.F.Feed.inputs c.args.feed.now)) (some_same (sym at ∙ e)) meets)

pub returns : goal.returns
returns g c = λ yes j w e. c.loop-trib.invariant j (omega (arith, inside c.args.self.now.list.items j w e, c.args.self.now.count, c.loop-trib-test.false)) w e
