use Rattle.std.proofs.Common.{◌≡◌, ◌<◌, ◌≤◌, ℕ, Bool, List, length, map, refl, ap, ◌∙◌, subst, arith}
use Rattle.pdh_edge.specs.Ports.{for_leaf}
use Rattle.pdh_events.specs.laws.QuietLaws.{IsQuiet}
use Rattle.pdh_rx.specs.Meaning.{Meaning}
use Rattle.pdh_rx.specs.Node.{EachStands, child_notes, Gives}
use Rattle.pdh_rx.specs.Places.{loaded_cell, loaded_places, loaded_bits, loaded_most}
use Rattle.pdh_rx.proofs.Gains.{gives_at}
use Rattle.pdh_rx.proofs.Keeping.{keeps_nothing, keeps_more, gives_ready}
use Rattle.pdh_rx.proofs.Playing.{plays_same}
use Rattle.pdh_rx.specs.Merging.{FirstGot}
use Rattle.pdh_rx.proofs.Ahead.{first_none, first_more}
use Rattle.pdh_rx.proofs.Standing.{loaded_all, loaded_acts_are, loaded_some, read_same}
use Rattle.pdh_rx.proofs.Fitting.{first_all, loaded_few}
use Rattle.pdh_rx.proofs.merging.give_in_room.Goals as goal

pub loop-trib-init : goal.loop-trib-init
loop-trib-init g c =
    let s = g.S.Shape.shape in
    record {
      frame = refl;
      gap = refl;
      fits = λ j le. c.requires.fits j;
      given = first_none _ _ _ _ _;
      kept = keeps_nothing g.C.Rx.meaning g.D.Drain.drain_faults g.D.Drain.drained _ _ (g.met.D.Drain.drained_same _);
    }

pub take_in_room-requires-clause-ready : goal.take_in_room-requires-clause-ready
take_in_room-requires-clause-ready g c = gives_ready g.D.Drain.outputs g.met.D.Drain.drained_holds c.requires.ready c.loop-trib.invariant.kept c.loop-trib.invariant.given.gives

pub take_in_room-requires-clause-fits : goal.take_in_room-requires-clause-fits
take_in_room-requires-clause-fits g c child at =
    let s = g.S.Shape.shape in
    let gap = c.args.strip.now.gap in
    let frame = c.args.strip.now.frame in
    let inv = c.loop-trib.invariant in
    let t = c.loop-trib.trib in
    let known : t < s.tribs = omega (arith, g.met.S.Shape.tribs_is) in
    let read : c.bits.result.now.bits ≡ loaded_bits s gap frame t = c.bits.ensures ∙ read_same s gap c.loop-trib.strip.gap frame c.loop-trib.strip.frame t _ inv.gap inv.frame c.read.ensures.bits in
    let few : length c.bits.result.now.bits ≤ loaded_most s gap = omega (arith, ap length read, loaded_few s gap frame t g.met.S.Shape.has_tributaries known) in
    g.met.C.Rx.fits_by child _ _ _ _ (λ k mine. refl) few (inv.fits t (omega arith) child at)

pub loop-trib-preserved : goal.loop-trib-preserved
loop-trib-preserved g c =
    let s = g.S.Shape.shape in
    let gap = c.args.strip.now.gap in
    let frame = c.args.strip.now.frame in
    let inv = c.loop-trib.invariant in
    let t = c.loop-trib.trib in
    let ms = map g.C.Rx.meaning c.args.children.now in
    let taken = c.take_in_room.ensures in
    let read : c.bits.result.now.bits ≡ loaded_bits s gap frame t = c.bits.ensures ∙ read_same s gap c.loop-trib.strip.gap frame c.loop-trib.strip.frame t _ inv.gap inv.frame c.read.ensures.bits in
    let P : List Bool → Type 0 = λ l. Gives g.C.Rx.stands ms (for_leaf t l) c.loop-trib.children c.take_in_room.new.self (g.D.Drain.outputs c.loop-trib.drain) (g.D.Drain.outputs c.take_in_room.new.drain) in
    let Q : List Bool → Type 0 = λ l. (lines : ℕ → List Bool) → EachStands g.C.Rx.stands c.loop-trib.children lines → IsQuiet (child_notes ms t) (lines t) l in
    let M : List Meaning → Type 0 = λ m. (lines : ℕ → List Bool) → EachStands g.C.Rx.stands c.loop-trib.children lines → IsQuiet (child_notes m t) (lines t) c.bits.result.now.bits in
    record {
      frame = c.read.ensures.frame ∙ inv.frame;
      gap = c.read.ensures.gap ∙ inv.gap;
      fits = λ j le. taken.others j (loaded_most s gap) (λ e. omega (arith, le, e)) (inv.fits j (omega (arith, le)));
      given = first_more g.C.Rx.stands ms (loaded_bits s gap frame) (loaded_bits s gap frame) t _ _ _ _ _ _ (λ j lt. refl) inv.given (subst P read (gives_at g.C.Rx.stands ms _ inv.kept.same _ _ _ _ _ taken.given)) (subst Q read (subst M inv.kept.same taken.quiet));
      kept = keeps_more g.C.Rx.meaning g.D.Drain.drain_faults g.D.Drain.drained g.met.D.Drain.drained_join _ _ _ _ _ _ {T = Unit {0}} {E = Unit {0}} tt inv.kept (record { same = taken.same; drains = taken.drained; cause = taken.faults });
    }

pub returns : goal.returns
returns g c watch =
    let s = g.S.Shape.shape in
    let gap = c.args.strip.now.gap in
    let frame = c.args.strip.now.frame in
    let inv = c.loop-trib.invariant in
    let ms = map g.C.Rx.meaning c.args.children.now in
    let all : c.loop-trib.trib ≡ s.tribs = omega (arith, g.met.S.Shape.tribs_is) in
    let P : ℕ → Type 0 = λ n. FirstGot g.C.Rx.stands ms (loaded_bits s gap frame) n c.args.children.now c.loop-trib.children (g.D.Drain.outputs c.args.drain.now) (g.D.Drain.outputs c.loop-trib.drain) in
    record {
      played = plays_same g.C.Rx.stands g.W.Watch.saw ms _ _ _ _ _ _ _ _ (loaded_acts_are s gap frame g.met.S.Shape.in_turn)
          (first_all g.C.Rx.stands g.W.Watch.saw g.met.W.Watch.saw_join ms (loaded_bits s gap frame) s.tribs (loaded_cell s gap frame) (loaded_places s gap) (loaded_some s gap) (λ j lt. loaded_all s gap frame j g.met.S.Shape.in_turn g.met.S.Shape.has_tributaries lt)
          _ _ _ _ watch (g.met.W.Watch.saw_nothing watch) (subst P all inv.given));
      part = tt;
      kept = inv.kept;
    }
