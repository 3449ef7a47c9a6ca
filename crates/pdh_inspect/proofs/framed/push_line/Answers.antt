use Rattle.std.proofs.Common.{◌≡◌, ◌<◌, List, Bool, length, refl, ap, sym, ◌∙◌, subst, arith}
use Rattle.std.proofs.lemmas.Result.{err_from_is_err_and}
use Rattle.pdh_bits.specs.BitOut.{BoundedBits}
use Rattle.pdh_packed.specs.Gaining.{gained}
use Rattle.pdh_edge.specs.Ports.{Takes}
use Rattle.pdh_watch.specs.declared.event.Event.{Event}
use Rattle.pdh_g706.specs.View.{StandsFor}
use Rattle.pdh_g706.specs.Events.{e1_events}
use Rattle.pdh_g706.proofs.TakeLaws.{events_none}
use Rattle.pdh_chain.specs.Muxing.{as_line}
use Rattle.pdh_chain.proofs.Lists.{gained_whole}
use Rattle.pdh_inspect.specs.Seen.{SeesAll}
use Rattle.pdh_inspect.proofs.Given.{sees_none, sees_more, sees_fewer}
use Rattle.pdh_inspect.proofs.framed.push_line.Goals as goal

pub loop-pushed-init : goal.loop-pushed-init
loop-pushed-init g c = record {
  within = omega arith;
  room = c.requires.room;
  unfailed = refl;
  fed = g.met.F.Feed.fed_same _;
  sees = sees_none (λ given. StandsFor c.args.align.now given × g.W.Watch.saw c.args.watch.now (e1_events given) c.args.watch.now) (g.F.Feed.inputs c.args.port.now.feed)
      (c.requires.stands, subst (λ (events : List Event). g.W.Watch.saw c.args.watch.now events c.args.watch.now) (sym events_none) (g.met.W.Watch.saw_nothing c.args.watch.now));
}

pub take_bits-taken-requires-clause-held : goal.take_bits-taken-requires-clause-held
take_bits-taken-requires-clause-held g c = ap (λ h. h 0) (g.met.F.Feed.fed_holds _ _ c.loop-pushed.invariant.fed) ∙ c.requires.line

pub push_all-requires : goal.push_all-requires
push_all-requires g c = (c.loop-pushed.invariant.sees.given, c.loop-pushed.invariant.sees.seen.0)

pub returns-in_err-taken-clause-err : goal.returns-in_err-taken-clause-err
returns-in_err-taken-clause-err g c =
    let p = err_from_is_err_and c.from_residual-in_err-taken.result c.from_residual-in_err-taken.ensures.1 in
    let part : List Bool = c.take_bits-taken.new.into.bits in
    let whole : gained c.clear.new.self c.take_bits-taken.new.into ≡ part = gained_whole c.clear.new.self c.take_bits-taken.new.into (ap (λ (b : BoundedBits). b.bits) c.clear.ensures) in
    let less : length part < c.min-most.result = omega (arith, ap (λ (l : List Bool). length l) whole, c.in_err-taken.ensures.err) in
    let taken = subst (λ (l : List Bool). Takes (as_line l) (g.F.Feed.inputs c.loop-pushed.port.feed) (g.F.Feed.inputs c.take_bits-taken.new.feed.feed)) whole c.take_bits-taken.ensures.takes in
    let saw = g.W.Watch.saw c.args.watch.now in
    rw p.1
    (sees_fewer (λ given. StandsFor c.loop-pushed.align given × saw (e1_events given) c.loop-pushed.watch) (λ given. saw (e1_events given) c.push_all.new.watch) c.loop-pushed.pushed c.min-most.result c.args.bits part _ _ _ _
    (ap g.F.Feed.inputs c.push_all.ensures.feed) less (omega (arith, c.min-most.ensures, c.loop-pushed-test.true)) c.loop-pushed.invariant.sees taken
    (λ given h. c.push_all.ensures.seen c.args.watch.now given h.0 h.1))

pub loop-pushed-preserved : goal.loop-pushed-preserved
loop-pushed-preserved g c =
    let inv = c.loop-pushed.invariant in
    let n = c.min-most.result in
    let bits : List Bool = c.take_bits-taken.new.into.bits in
    let whole : gained c.clear.new.self c.take_bits-taken.new.into ≡ bits = gained_whole c.clear.new.self c.take_bits-taken.new.into (ap (λ (b : BoundedBits). b.bits) c.clear.ensures) in
    let count : length bits ≡ n = sym (ap (λ (l : List Bool). length l) whole) ∙ c.in_ok-taken.ensures.ok in
    let taken = subst (λ (l : List Bool). Takes (as_line l) (g.F.Feed.inputs c.loop-pushed.port.feed) (g.F.Feed.inputs c.take_bits-taken.new.feed.feed)) whole c.take_bits-taken.ensures.takes in
    let saw = g.W.Watch.saw c.args.watch.now in
    record {
      within = omega (arith, c.min-most.ensures, c.loop-pushed-test.true);
      room = omega (arith, inv.room, c.take_bits-taken.ensures.grown.capacity, ap (λ (b : BoundedBits). b.capacity) c.clear.ensures);
      unfailed = ap g.F.Feed.feed_faults c.push_all.ensures.feed ∙ c.in_ok-taken.ensures.cause ∙ inv.unfailed;
      fed = subst (g.F.Feed.fed c.args.port.now.feed) (sym c.push_all.ensures.feed) (g.met.F.Feed.fed_join _ _ _ inv.fed c.take_bits-taken.ensures.fed.0);
      sees = sees_more (λ given. StandsFor c.loop-pushed.align given × saw (e1_events given) c.loop-pushed.watch) (λ given. StandsFor c.push_all.new.align given × saw (e1_events given) c.push_all.new.watch) c.loop-pushed.pushed n bits _ _ _ _
          (ap g.F.Feed.inputs c.push_all.ensures.feed) count inv.sees taken
          (λ given h. (c.push_all.ensures.stands given h.0, c.push_all.ensures.seen c.args.watch.now given h.0 h.1));
    }

pub returns-clause-ok : goal.returns-clause-ok
returns-clause-ok g c =
    let all : c.loop-pushed.pushed ≡ c.args.bits = omega arith in
    subst (λ n. SeesAll (λ given. StandsFor c.loop-pushed.align given × g.W.Watch.saw c.args.watch.now (e1_events given) c.loop-pushed.watch) n (g.F.Feed.inputs c.args.port.now.feed) (g.F.Feed.inputs c.loop-pushed.port.feed)) all c.loop-pushed.invariant.sees
