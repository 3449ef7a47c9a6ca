use Rattle.std.proofs.Common.{◌≡◌, ℕ, below_more, refl, sym, ◌∙◌, subst, arith, Some, slice_get}
use Rattle.std.proofs.lemmas.Option.{slice_get_read}
use Rattle.pdh_tx.specs.Meaning.{plan_in}
use Rattle.pdh_tx.specs.Calls.{GoesFree}
use Rattle.pdh_tx.proofs.Lists.{some_same}
use Rattle.pdh_tx.proofs.Moving.{inside}
use Rattle.pdh_locked.proofs.Filled.{fed_one}
use Rattle.pdh_locked.proofs.Reading.{maker}
use Rattle.pdh_locked.proofs.children.Children.all_stay_free.Goals as goal

pub quiet-requires-clause-fed : goal.quiet-requires-clause-fed
quiet-requires-clause-fed g c =
    let here = slice_get_read _ _ c.loop-trib.trib _ refl (omega (arith, c.loop-trib-test.true, c.args.self.now.count)) c.index.ensures in
    fed_one c.args.self.now c.args.clock.now (g.F.Feed.inputs c.args.feed.now) c.loop-trib.trib _ (maker g.C.Tx (plan_in c.args.clock.now g.G.SlipLog.takes) c.args.self.now.list.items c.loop-trib.trib _ c.requires.placed.0 c.args.self.now.disjoint here) c.requires.fed

pub quiet-requires-clause-stands : goal.quiet-requires-clause-stands
quiet-requires-clause-stands g c =
    let here = slice_get_read _ _ c.loop-trib.trib _ refl (omega (arith, c.loop-trib-test.true, c.args.self.now.count)) c.index.ensures in
    (c.requires.placed.0 c.loop-trib.trib, (c.requires.placed.1 c.loop-trib.trib _ here).place)

pub loop-trib-preserved : goal.loop-trib-preserved
loop-trib-preserved g c =
    let cs = c.args.self.now.list.items in
    let at : slice_get cs c.loop-trib.trib ≡ Some c.index.result.now = slice_get_read _ _ c.loop-trib.trib _ refl (omega (arith, c.loop-trib-test.true, c.args.self.now.count)) c.index.ensures in
    let all : c.quiet.result ≡ c.args.bits = omega (arith, c.quiet.ensures.most, c.if-quiet-bits.false) in
    let free = subst (λ (n : ℕ). GoesFree g.C.Tx.meaning g.C.Tx.stands_at c.index.result.now (plan_in c.args.clock.now g.G.SlipLog.takes) n (g.F.Feed.inputs c.args.feed.now)) all c.quiet.ensures.free in
    below_more (λ j. (child : _) → slice_get cs j ≡ Some child → GoesFree g.C.Tx.meaning g.C.Tx.stands_at child (plan_in c.args.clock.now g.G.SlipLog.takes) c.args.bits (g.F.Feed.inputs c.args.feed.now)) c.loop-trib.trib c.loop-trib.invariant
    (λ child e. subst (λ v. GoesFree g.C.Tx.meaning g.C.Tx.stands_at v (plan_in c.args.clock.now g.G.SlipLog.takes) c.args.bits (g.F.Feed.inputs c.args.feed.now)) (some_same (sym at ∙ e)) free)

pub returns : goal.returns
returns g c = λ yes j child e. c.loop-trib.invariant j (omega (arith, inside c.args.self.now.list.items j child e, c.args.self.now.count, c.loop-trib-test.false)) child e
