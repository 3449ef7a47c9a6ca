use Rattle.std.proofs.Common.{◌∙◌, [], false, length, get_or, refl, sym, ap, arith}
use Rattle.pdh_rx.specs.Places.{loaded_places}
use Rattle.pdh_rx.specs.Merging.{nowhere}
use Rattle.pdh_rx.specs.laws.NodeLaws.{all_sound}
use Rattle.pdh_rx.proofs.Gains.{part_at as gives_part_at}
use Rattle.pdh_rx.proofs.Keeping.{keeps_nothing, keeps_more, keeps_all, gives_ready}
use Rattle.pdh_rx.proofs.Playing.{plays_at, part_at}
use Rattle.pdh_rx.proofs.Acting.{acted_fails}
use Rattle.pdh_rx.proofs.Standing.{loaded_some, read_same}
use Rattle.pdh_rx.proofs.DueLaws.{begun_all}
use Rattle.pdh_rx.proofs.InTurn.{none_due, past_end, still_more, push_fails, glide_fails, goes_on, goes_same}
use Rattle.pdh_rx.proofs.merging.give_in_turn.Goals as goal

pub returns-in_err-give_ahead-clause-acted : goal.returns-in_err-give_ahead-clause-acted
returns-in_err-give_ahead-clause-acted g c =
    let err = c.in_err-give_ahead.ensures in
    acted_fails _ g.met.D.Drain.drained_join c.from_residual.result c.from_residual.ensures.1
    (record { gives = err.part; sees = λ lines each. ([], _, refl, g.met.W.Watch.saw_nothing _) })
    (keeps_nothing g.C.Rx.meaning g.D.Drain.drain_faults g.D.Drain.drained _ _ (g.met.D.Drain.drained_same _)) err.kept

pub loop-step-init : goal.loop-step-init
loop-step-init g c =
    let ok = c.in_ok-give_ahead.ensures in
    record {
      frame = ok.frame;
      gap = ok.gap;
      room = ok.room;
      merges = begun_all g.C.Rx.stands g.W.Watch.saw g.met.W.Watch.saw_join _ _ _ _ _ _ _ _ _ _ _ (g.met.W.Watch.saw_nothing _) (loaded_some g.S.Shape.shape c.args.strip.now.gap) (ok.room ∙ c.requires.room ∙ sym g.met.S.Shape.tribs_is) ok.begun;
      kept = record { same = ok.kept.same; drains = ok.kept.drains; cause = ok.kept.cause };
    }

pub returns-in_default-clause-acted : goal.returns-in_default-clause-acted
returns-in_default-clause-acted g c =
    let inv = c.loop-step.invariant in
    record {
      played = none_due c.args.strip.now.gap c.args.strip.now.frame g.met.W.Watch.saw_join (all_sound g.C.Rx.meaning g.met.C.Rx.sound c.args.children.now) g.met.S.Shape.in_turn g.met.S.Shape.has_tributaries inv.merges (c.places-end.ensures ∙ ap (loaded_places g.S.Shape.shape) c.in_ok-give_ahead.ensures.gap) (c.next_due.ensures.none c.in_default.is);
      part = tt;
      kept = keeps_all g.C.Rx.meaning g.D.Drain.drain_faults g.D.Drain.drained _ _ _ _ inv.kept;
    }

pub next_due-requires : goal.next_due-requires
next_due-requires g c = c.loop-step.invariant.room ∙ c.requires.room

pub push-requires-clause-ready : goal.push-requires-clause-ready
push-requires-clause-ready g c = gives_ready g.D.Drain.outputs g.met.D.Drain.drained_holds c.requires.ready c.loop-step.invariant.kept c.loop-step.invariant.merges.ahead.gives

pub returns-in_err-push-clause-acted : goal.returns-in_err-push-clause-acted
returns-in_err-push-clause-acted g c =
    let inv = c.loop-step.invariant in
    let own = read_same g.S.Shape.shape c.args.strip.now.gap c.loop-step.strip.gap c.args.strip.now.frame c.loop-step.strip.frame c.in-Some.trib c.read.new.self.bits inv.gap inv.frame c.read.ensures.bits in
    let bit = c.get.ensures ∙ ap (λ l. get_or l (get_or c.loop-step.due c.in-Some.trib (nowhere 0)).given false) c.bits-bits.ensures in
    acted_fails _ g.met.D.Drain.drained_join c.from_residual-in_err-push.result c.from_residual-in_err-push.ensures.1
    (push_fails c.args.strip.now.gap c.args.strip.now.frame g.met.W.Watch.saw_join (all_sound g.C.Rx.meaning g.met.C.Rx.sound c.args.children.now) g.met.S.Shape.in_turn g.met.S.Shape.has_tributaries inv.merges (c.places-end.ensures ∙ ap (loaded_places g.S.Shape.shape) c.in_ok-give_ahead.ensures.gap)
    (inv.room ∙ c.requires.room ∙ sym g.met.S.Shape.tribs_is) (omega (arith, c.in-Some.ensures.known, inv.room, c.requires.room)) c.in-Some.ensures.before_end c.in-Some.ensures.first own bit (part_at g.C.Rx.stands g.W.Watch.saw _ _ inv.kept.same _ _ _ _ _ _ c.in_err-push.ensures.part))
    inv.kept c.in_err-push.ensures.kept

pub overflow_add-given : goal.overflow_add-given
overflow_add-given g c =
    let inv = c.loop-step.invariant in
    let own = read_same g.S.Shape.shape c.args.strip.now.gap c.loop-step.strip.gap c.args.strip.now.frame c.loop-step.strip.frame c.in-Some.trib c.read.new.self.bits inv.gap inv.frame c.read.ensures.bits in
    let more = still_more c.args.strip.now.gap c.args.strip.now.frame g.met.W.Watch.saw_join (all_sound g.C.Rx.meaning g.met.C.Rx.sound c.args.children.now) g.met.S.Shape.in_turn g.met.S.Shape.has_tributaries inv.merges (c.places-end.ensures ∙ ap (loaded_places g.S.Shape.shape) c.in_ok-give_ahead.ensures.gap)
    (inv.room ∙ c.requires.room ∙ sym g.met.S.Shape.tribs_is) (omega (arith, c.in-Some.ensures.known, inv.room, c.requires.room)) c.in-Some.ensures.before_end c.in-Some.ensures.first own in
    omega (arith, more, ap length c.bits-bits.ensures, c.len-fits.ensures.count, c.len-fits.type_inv)

pub give_on-requires-clause-room : goal.give_on-requires-clause-room
give_on-requires-clause-room g c = c.loop-step.invariant.room ∙ c.requires.room

pub give_on-requires-clause-begun : goal.give_on-requires-clause-begun
give_on-requires-clause-begun g c =
    let inv = c.loop-step.invariant in
    let own = read_same g.S.Shape.shape c.args.strip.now.gap c.loop-step.strip.gap c.args.strip.now.frame c.loop-step.strip.frame c.in-Some.trib c.read.new.self.bits inv.gap inv.frame c.read.ensures.bits in
    let more = still_more c.args.strip.now.gap c.args.strip.now.frame g.met.W.Watch.saw_join (all_sound g.C.Rx.meaning g.met.C.Rx.sound c.args.children.now) g.met.S.Shape.in_turn g.met.S.Shape.has_tributaries inv.merges (c.places-end.ensures ∙ ap (loaded_places g.S.Shape.shape) c.in_ok-give_ahead.ensures.gap)
    (inv.room ∙ c.requires.room ∙ sym g.met.S.Shape.tribs_is) (omega (arith, c.in-Some.ensures.known, inv.room, c.requires.room)) c.in-Some.ensures.before_end c.in-Some.ensures.first own in
    omega (arith, more)

pub give_on-requires-clause-ready : goal.give_on-requires-clause-ready
give_on-requires-clause-ready g c =
    gives_ready g.D.Drain.outputs g.met.D.Drain.drained_holds (gives_ready g.D.Drain.outputs g.met.D.Drain.drained_holds c.requires.ready c.loop-step.invariant.kept c.loop-step.invariant.merges.ahead.gives) c.in_ok-push.ensures.kept c.in_ok-push.ensures.played.gives

pub returns-in_err-give_on-clause-acted : goal.returns-in_err-give_on-clause-acted
returns-in_err-give_on-clause-acted g c =
    let inv = c.loop-step.invariant in
    let own = read_same g.S.Shape.shape c.args.strip.now.gap c.loop-step.strip.gap c.args.strip.now.frame c.loop-step.strip.frame c.in-Some.trib c.read.new.self.bits inv.gap inv.frame c.read.ensures.bits in
    let bit = c.get.ensures ∙ ap (λ l. get_or l (get_or c.loop-step.due c.in-Some.trib (nowhere 0)).given false) c.bits-bits.ensures in
    acted_fails _ g.met.D.Drain.drained_join c.from_residual-in_err-give_on.result c.from_residual-in_err-give_on.ensures.1
    (glide_fails c.args.strip.now.gap c.args.strip.now.frame g.met.W.Watch.saw_join (all_sound g.C.Rx.meaning g.met.C.Rx.sound c.args.children.now) g.met.S.Shape.in_turn g.met.S.Shape.has_tributaries inv.merges (c.places-end.ensures ∙ ap (loaded_places g.S.Shape.shape) c.in_ok-give_ahead.ensures.gap)
    (inv.room ∙ c.requires.room ∙ sym g.met.S.Shape.tribs_is) (omega (arith, c.in-Some.ensures.known, inv.room, c.requires.room)) c.in-Some.ensures.before_end c.in-Some.ensures.first own bit (plays_at g.C.Rx.stands g.W.Watch.saw _ _ inv.kept.same _ _ _ _ _ _ _ c.in_ok-push.ensures.played)
    (gives_part_at g.C.Rx.stands _ _ (c.in_ok-push.ensures.kept.same ∙ inv.kept.same) _ _ _ _ c.in_err-give_on.ensures.part))
    (keeps_more g.C.Rx.meaning g.D.Drain.drain_faults g.D.Drain.drained g.met.D.Drain.drained_join _ _ _ _ _ _ _ inv.kept c.in_ok-push.ensures.kept) c.in_err-give_on.ensures.kept

pub loop-step-preserved : goal.loop-step-preserved
loop-step-preserved g c =
    let inv = c.loop-step.invariant in
    let own = read_same g.S.Shape.shape c.args.strip.now.gap c.loop-step.strip.gap c.args.strip.now.frame c.loop-step.strip.frame c.in-Some.trib c.read.new.self.bits inv.gap inv.frame c.read.ensures.bits in
    let bit = c.get.ensures ∙ ap (λ l. get_or l (get_or c.loop-step.due c.in-Some.trib (nowhere 0)).given false) c.bits-bits.ensures in
    let ok = c.in_ok-give_on.ensures in
    record {
      frame = c.read.ensures.frame ∙ inv.frame;
      gap = c.read.ensures.gap ∙ inv.gap;
      room = ok.room ∙ inv.room;
      merges = goes_on c.args.strip.now.gap c.args.strip.now.frame g.met.W.Watch.saw_join (all_sound g.C.Rx.meaning g.met.C.Rx.sound c.args.children.now) g.met.S.Shape.in_turn g.met.S.Shape.has_tributaries inv.merges (c.places-end.ensures ∙ ap (loaded_places g.S.Shape.shape) c.in_ok-give_ahead.ensures.gap)
          (inv.room ∙ c.requires.room ∙ sym g.met.S.Shape.tribs_is) (omega (arith, c.in-Some.ensures.known, inv.room, c.requires.room)) c.in-Some.ensures.before_end c.in-Some.ensures.first own bit (plays_at g.C.Rx.stands g.W.Watch.saw _ _ inv.kept.same _ _ _ _ _ _ _ c.in_ok-push.ensures.played)
          (goes_same (c.in_ok-push.ensures.kept.same ∙ inv.kept.same) (c.read.ensures.gap ∙ inv.gap) (c.read.ensures.frame ∙ inv.frame) ok.given);
      kept = keeps_more g.C.Rx.meaning g.D.Drain.drain_faults g.D.Drain.drained g.met.D.Drain.drained_join _ _ _ _ _ _ _ (keeps_more g.C.Rx.meaning g.D.Drain.drain_faults g.D.Drain.drained g.met.D.Drain.drained_join _ _ _ _ _ _ _ inv.kept c.in_ok-push.ensures.kept) ok.kept;
    }

pub returns-clause-acted : goal.returns-clause-acted
returns-clause-acted g c =
    let inv = c.loop-step.invariant in
    record {
      played = past_end c.args.strip.now.gap c.args.strip.now.frame g.met.W.Watch.saw_join (all_sound g.C.Rx.meaning g.met.C.Rx.sound c.args.children.now) g.met.S.Shape.in_turn g.met.S.Shape.has_tributaries inv.merges (c.places-end.ensures ∙ ap (loaded_places g.S.Shape.shape) c.in_ok-give_ahead.ensures.gap) (omega arith);
      part = tt;
      kept = keeps_all g.C.Rx.meaning g.D.Drain.drain_faults g.D.Drain.drained _ _ _ _ inv.kept;
    }
