use Rattle.std.proofs.Common.{◌≡◌, ◌<◌, ℕ, Bool, List, length, map, take, refl, sym, ◌∙◌, subst, arith}
use Rattle.std.proofs.lemmas.Result.{err_from_is_err_and}
use Rattle.pdh_edge.specs.Ports.{for_leaf}
use Rattle.pdh_events.specs.Acts.{Act}
use Rattle.pdh_events.specs.laws.ActsLaws.{bits_to}
use Rattle.pdh_events.specs.laws.QuietLaws.{IsQuiet}
use Rattle.pdh_rx.specs.Node.{EachStands, child_notes, Gives, GivesPart}
use Rattle.pdh_rx.specs.Places.{loaded_cell, loaded_places, loaded_bits}
use Rattle.pdh_rx.specs.Merging.{Begun}
use Rattle.pdh_rx.specs.laws.NodeLaws.{all_sound}
use Rattle.pdh_rx.proofs.Gains.{on_err_from, part_at}
use Rattle.pdh_rx.proofs.Keeping.{keeps_nothing, keeps_more, keeps_failed, keeps_all, gives_ready}
use Rattle.pdh_rx.proofs.Standing.{loaded_all, loaded_acts_are, read_same}
use Rattle.pdh_rx.proofs.DueLaws.{begun_none, begun_more, begun_part}
use Rattle.pdh_rx.proofs.InTurn.{goes_same}
use Rattle.pdh_rx.proofs.merging.give_ahead.Goals as goal

pub loop-trib-init : goal.loop-trib-init
loop-trib-init g c = record {
  frame = refl;
  gap = refl;
  room = refl;
  begun = begun_none _ _ _ _ _ _ _ _ _;
  kept = keeps_nothing g.C.Rx.meaning g.D.Drain.drain_faults g.D.Drain.drained _ _ (g.met.D.Drain.drained_same _);
}

pub give_on-requires-clause-room : goal.give_on-requires-clause-room
give_on-requires-clause-room g c = c.loop-trib.invariant.room ∙ c.requires.room

pub give_on-requires-clause-ready : goal.give_on-requires-clause-ready
give_on-requires-clause-ready g c = gives_ready g.D.Drain.outputs g.met.D.Drain.drained_holds c.requires.ready c.loop-trib.invariant.kept c.loop-trib.invariant.begun.got.gives

pub loop-trib-preserved : goal.loop-trib-preserved
loop-trib-preserved g c =
    let inv = c.loop-trib.invariant in
    let on = goes_same inv.kept.same (c.read.ensures.gap ∙ inv.gap) (c.read.ensures.frame ∙ inv.frame) c.in_ok-give_on.ensures.given in
    let inside : c.loop-trib.trib < length c.loop-trib.due = omega (arith, inv.room, c.requires.room) in
    let given : on.more ≡ on.due.given = omega (arith, on.given_is) in
    let ms = map g.C.Rx.meaning c.args.children.now in
    let t = c.loop-trib.trib in
    let own = loaded_bits g.S.Shape.shape c.args.strip.now.gap c.args.strip.now.frame t in
    let P : ℕ → Type 0 = λ n. Gives g.C.Rx.stands ms (for_leaf t (take n own)) c.loop-trib.children c.give_on.new.children (g.D.Drain.outputs c.loop-trib.drain) (g.D.Drain.outputs c.give_on.new.drain) in
    let Q : ℕ → Type 0 = λ n. (lines : ℕ → List Bool) → EachStands g.C.Rx.stands c.loop-trib.children lines → IsQuiet (child_notes ms t) (lines t) (take n own) in
    record {
      frame = c.read.ensures.frame ∙ inv.frame;
      gap = c.read.ensures.gap ∙ inv.gap;
      room = c.in_ok-give_on.ensures.room ∙ inv.room;
      begun = begun_more _ _ _ _ _ _ _ _ _ on.due _ _ _ _ _ _ inside on.list_is on.placed inv.begun (subst P given on.gives) (subst Q given on.quiet);
      kept = keeps_more g.C.Rx.meaning g.D.Drain.drain_faults g.D.Drain.drained g.met.D.Drain.drained_join _ _ _ _ _ _ _ inv.kept c.in_ok-give_on.ensures.kept;
    }

pub returns-in_err-give_on-clause-part : goal.returns-in_err-give_on-clause-part
returns-in_err-give_on-clause-part g c =
    let s = g.S.Shape.shape in
    let gap = c.args.strip.now.gap in
    let frame = c.args.strip.now.frame in
    let inv = c.loop-trib.invariant in
    let t = c.loop-trib.trib in
    let ms = map g.C.Rx.meaning c.args.children.now in
    let inside : t < s.tribs = omega (arith, g.met.S.Shape.tribs_is) in
    let own : c.read.new.self.bits ≡ loaded_bits s gap frame t = read_same s gap c.loop-trib.strip.gap frame c.loop-trib.strip.frame t _ inv.gap inv.frame c.read.ensures.bits in
    let P : List Bool → Type 0 = λ l. GivesPart g.C.Rx.stands ms (for_leaf t l) c.loop-trib.children (g.D.Drain.outputs c.loop-trib.drain) (g.D.Drain.outputs c.give_on.new.drain) in
    let A : List Act → Type 0 = λ acts. GivesPart g.C.Rx.stands ms (bits_to acts) c.args.children.now (g.D.Drain.outputs c.args.drain.now) (g.D.Drain.outputs c.give_on.new.drain) in
    on_err_from _ c.from_residual.result
    (subst A (sym (loaded_acts_are s gap frame g.met.S.Shape.in_turn))
    (begun_part g.C.Rx.stands ms s.tribs (loaded_cell s gap frame) (loaded_places s gap) (loaded_bits s gap frame) (all_sound g.C.Rx.meaning g.met.C.Rx.sound c.args.children.now) (λ j lt. loaded_all s gap frame j g.met.S.Shape.in_turn g.met.S.Shape.has_tributaries lt)
    t c.loop-trib.due _ _ _ _ _ inside inv.begun (subst P own (part_at g.C.Rx.stands ms _ inv.kept.same _ _ _ _ c.in_err-give_on.ensures.part))))

pub returns-in_err-give_on-clause-kept : goal.returns-in_err-give_on-clause-kept
returns-in_err-give_on-clause-kept g c =
    keeps_failed g.C.Rx.meaning g.D.Drain.drain_faults g.D.Drain.drained g.met.D.Drain.drained_join _ _ _ _ _ _ c.from_residual.result _ _ (err_from_is_err_and c.from_residual.result c.from_residual.ensures.1).1 c.loop-trib.invariant.kept c.in_err-give_on.ensures.kept

pub returns-clause-begun : goal.returns-clause-begun
returns-clause-begun g c =
    let s = g.S.Shape.shape in
    let gap = c.args.strip.now.gap in
    let frame = c.args.strip.now.frame in
    let all : c.loop-trib.trib ≡ s.tribs = omega (arith, g.met.S.Shape.tribs_is) in
    let B : ℕ → Type 0 = λ n. Begun g.C.Rx.stands (map g.C.Rx.meaning c.args.children.now) s.tribs (loaded_cell s gap frame) (loaded_places s gap) (loaded_bits s gap frame) n c.loop-trib.due c.args.children.now c.loop-trib.children (g.D.Drain.outputs c.args.drain.now) (g.D.Drain.outputs c.loop-trib.drain) in
    subst B all c.loop-trib.invariant.begun

pub returns-clause-kept : goal.returns-clause-kept
returns-clause-kept g c = keeps_all g.C.Rx.meaning g.D.Drain.drain_faults g.D.Drain.drained _ _ _ _ c.loop-trib.invariant.kept
