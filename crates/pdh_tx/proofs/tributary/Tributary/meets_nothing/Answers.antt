use Rattle.std.proofs.Common.{◌≡◌, ◌<◌, ◌≤◌, ◌+◌, ◌-◌, ◌*◌, ℕ, suc, ap, sym, ◌∙◌, subst, arith}
use Rattle.std.proofs.lemmas.Bool.{eqb-true}
use Rattle.std.proofs.Math.Nat.{mul-le-mul_right}
use Rattle.pdh_shape.specs.Frame.{FrameShape}
use Rattle.pdh_line.specs.Sending.{taken}
use Rattle.pdh_line.specs.Paths.{steps_of}
use Rattle.pdh_line.specs.Tolerance.{StaysInside}
use Rattle.pdh_line.proofs.FrameBounds.{lt_of_mul}
use Rattle.pdh_line.proofs.Inside.{first_inside}
use Rattle.pdh_tx.specs.Meaning.{Plan, plan_in}
use Rattle.pdh_tx.specs.Making.{IsUneventful}
use Rattle.pdh_tx.specs.Quiet.{HoldsFrom}
use Rattle.pdh_tx.specs.Tributary.{meaning_in}
use Rattle.pdh_tx.specs.Node.{taken_to}
use Rattle.pdh_tx.proofs.QuietStores.{calm}
use Rattle.pdh_tx.proofs.QuietSlots.{node_stores, node_low, node_len, node_takes}
use Rattle.pdh_tx.proofs.tributary.Tributary.meets_nothing.Goals as goal

pub start_fill-fill-requires-clause-slot : goal.start_fill-fill-requires-clause-slot
start_fill-fill-requires-clause-slot g c = omega (arith, c.requires.next.inside, g.met.S.Shape.len_is)

pub start_fill-fill-requires-clause-made : goal.start_fill-fill-requires-clause-made
start_fill-fill-requires-clause-made g c = ap (λ n. c.args.next.frame * n + c.args.next.slot) (sym g.met.S.Shape.len_is) ∙ c.requires.next.first

pub start_fill-fill-requires-clause-fits : goal.start_fill-fill-requires-clause-fits
start_fill-fill-requires-clause-fits g c = λ inside. let share = c.requires.stands.decided inside in omega (arith, share.arriving, share.fits, g.met.S.Shape.len_is)

-- the tributary has a store
stored : (trib tribs TRIBS stores : ℕ) → trib < TRIBS → tribs ≡ TRIBS → stores ≡ tribs → trib < stores
stored trib tribs TRIBS stores known is all = omega (arith, known, is, all)

pub stays_inside-requires-clause-in_range : goal.stays_inside-requires-clause-in_range
stays_inside-requires-clause-in_range g c = stored _ _ _ _ c.requires.trib g.met.S.Shape.tribs_is (node_stores g.S.Shape.shape c.args.next.path c.args.clock.now.levels c.requires.stores c.requires.next.node)

pub stays_inside-requires-clause-scheduled : goal.stays_inside-requires-clause-scheduled
stays_inside-requires-clause-scheduled g c = c.requires.next.scheduled

pub arriving-arriving-requires-clause-in_range : goal.arriving-arriving-requires-clause-in_range
arriving-arriving-requires-clause-in_range g c = stored _ _ _ _ c.requires.trib g.met.S.Shape.tribs_is (node_stores g.S.Shape.shape c.args.next.path c.args.clock.now.levels c.requires.stores c.requires.next.node)

-- the bits up to the last one are scheduled
scheduled : (end frames most len LEN : ℕ) → end ≤ frames * len → frames ≤ most → LEN ≡ len → end ≤ most * LEN
scheduled end frames most len LEN last all is = omega (arith, last, mul-le-mul_right len all, ap (λ n. most * n) is)

pub arriving-arriving-requires-clause-scheduled : goal.arriving-arriving-requires-clause-scheduled
arriving-arriving-requires-clause-scheduled g c =
    let next = c.requires.next in
    scheduled _ _ _ _ _ next.last next.scheduled (node_len g.S.Shape.shape c.args.next.path c.args.clock.now.levels c.requires.stores next.node)

pub quiet-requires-clause-stands : goal.quiet-requires-clause-stands
quiet-requires-clause-stands g c = (_, c.requires.stands.placed.place)

pub returns : goal.returns
returns g c = λ yes.
    let s : FrameShape = g.S.Shape.shape in
    let laws = g.met.S.Shape in
    let next = c.args.next in
    let is = c.requires.next in
    let plan : Plan = plan_in c.args.clock.now g.G.SlipLog.takes in
    let counts : ℕ → ℕ = plan.counts next.path c.args.trib in
    let known : c.args.trib < s.tribs = omega (arith, c.requires.trib, laws.tribs_is) in
    let fill : ℕ = c.start_fill-fill.result in
    let frames : ℕ = next.end_frame - next.frame in
    let inside : StaysInside s.low counts next.frame fill frames =
    subst (λ (low : ℕ). StaysInside low counts next.frame fill frames) (node_low s next.path c.args.clock.now.levels c.requires.stores is.node) (c.stays_inside.ensures c.if-not-stays_inside.false) in
    let took = node_takes s next.path c.args.clock.now.levels c.requires.stores is.node plan c.args.trib next.frame next.slot next.made next.end c.arriving-arriving.result is.first is.inside (c.arriving-arriving.ensures is.node.level is.node.at) in
    record {
      events = λ m u slot from to.
          let upto : m < next.end_frame = lt_of_mul m next.end_frame s.len (omega (arith, to, is.last)) in
          let later : next.frame < suc m = lt_of_mul next.frame (suc m) s.len (omega (arith, from, is.first, slot)) in
          let held : HoldsFrom plan.mode s c.args.trib counts next.frame next.slot fill = c.start_fill-fill.ensures plan c.requires.stands (omega (arith, first_inside s.low counts next.frame fill frames inside (omega (arith, upto, later)))) in
          calm s c.args.trib counts laws.is_frame laws.has_tributaries c.requires.stores laws.reads_evenly known plan.mode (steps_of next.path) next.frame next.slot fill frames m u is.inside held inside (omega (arith, later)) (omega (arith, upto, later)) slot (omega (arith, from, is.first));
      free =
          let all : taken_to s next.path plan next.frame next.slot c.args.trib + c.quiet.result ≡ taken s counts next.end = omega (arith, eqb-true _ _ yes, c.in-Ok.ensures, took) in
          subst (λ (n : ℕ). IsUneventful (meaning_in g.C.Tx c.args.self.now) plan (taken_to s next.path plan next.frame next.slot c.args.trib) n (g.F.Feed.inputs c.args.feed.now)) all
          (c.quiet.ensures.free _ c.requires.stands.placed.place);
    }
