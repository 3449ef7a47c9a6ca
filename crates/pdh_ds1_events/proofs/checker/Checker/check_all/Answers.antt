use Rattle.std.proofs.Common.{◌≡◌, ◌<◌, ◌-◌, ℕ, suc, List, Bool, [], ◌∷◌, length, map, take, slice_index_or, sym, ap, ◌∙◌, subst, arith}
use Rattle.std.specs.Prelude.{Option}
use Rattle.std.proofs.lemmas.List.{take_all, map-append}
use Rattle.pdh_watch.specs.declared.kind.Kind.{Kind}
use Rattle.pdh_watch.specs.declared.event.Event.{Event}
use Rattle.pdh_line.specs.Paths.{top}
use Rattle.pdh_line.specs.Tracking.Piece.{Delivered}
use Rattle.pdh_align.specs.Aligning.{frame_back}
use Rattle.pdh_events.specs.Telling.{event_of, tell}
use Rattle.pdh_ds1.specs.declared.plan.SuperframePlan.{SuperframePlan}
use Rattle.pdh_ds1_events.specs.Events.{crc_kinds}
use Rattle.pdh_ds1_events.specs.Checking.{checked, word_behind_all}
use Rattle.pdh_ds1_events.proofs.CheckLaws.{checked_none, word_none, checked_more, word_more}
use Rattle.pdh_ds1_events.proofs.checker.Checker.check_all.Goals as goal

pub loop-done-init : goal.loop-done-init
loop-done-init g c = record {
  word = sym (word_none g.P.InSuperframe.PLAN c.args.self.now);
  seen = subst (λ (x : List Bool). g.W.Watch.saw c.args.watch.now (tell top c.args.number (crc_kinds x)) c.args.watch.now) (sym (checked_none g.P.InSuperframe.PLAN c.args.self.now)) (g.met.W.Watch.saw_nothing _);
}

pub loop-done-preserved : goal.loop-done-preserved
loop-done-preserved g c =
    let plan : SuperframePlan = g.P.InSuperframe.PLAN in
    let ready : List (List Bool) = c.args.aligner.now.ready in
    let n : ℕ = c.loop-done.done in
    let inside : n < length ready = omega (arith, c.loop-done-test.true, c.requires) in
    let place : length ready - suc (c.args.ready - 1 - n) ≡ n = omega (arith, c.loop-done-test.true, c.requires) in
    let word : Option ℕ = word_behind_all plan c.args.self.now (map Delivered (take n ready)) in
    let one : List Bool → List Kind = λ frame. crc_kinds (checked plan word (Delivered frame ∷ [])) in
    let frame_is : frame_back ready (c.args.ready - 1 - n) ≡ slice_index_or ready n [] = ap (λ k. slice_index_or ready k []) place in
    let before : List Kind = crc_kinds (checked plan c.args.self.now (map Delivered (take n ready))) in
    let seen = subst (λ (k : List Kind). g.W.Watch.saw c.loop-done.watch (tell top c.args.number k) c.check.new.watch)
    (ap (λ w. crc_kinds (checked plan w (Delivered (frame_back ready (c.args.ready - 1 - n)) ∷ []))) c.loop-done.invariant.word ∙ ap one frame_is) c.check.ensures.seen in
    record {
      word = c.check.ensures.word ∙ ap (λ w. word_behind_all plan w (Delivered (frame_back ready (c.args.ready - 1 - n)) ∷ [])) c.loop-done.invariant.word
          ∙ ap (λ (x : List Bool). word_behind_all plan word (Delivered x ∷ [])) frame_is ∙ sym (word_more plan c.args.self.now ready n inside);
      seen = subst (λ (x : List Event). g.W.Watch.saw c.args.watch.now x c.check.new.watch)
          (sym (ap (tell top c.args.number) (checked_more plan c.args.self.now ready n inside) ∙ map-append (event_of top c.args.number) before (one (slice_index_or ready n []))))
          (g.met.W.Watch.saw_join _ _ _ _ _ c.loop-done.invariant.seen seen);
    }

pub returns-clause-word : goal.returns-clause-word
returns-clause-word g c =
    let all : take c.loop-done.done c.args.aligner.now.ready ≡ c.args.aligner.now.ready = take_all c.loop-done.done c.args.aligner.now.ready (omega (arith, c.loop-done-test.false, c.requires)) in
    c.loop-done.invariant.word ∙ ap (λ (r : List (List Bool)). word_behind_all g.P.InSuperframe.PLAN c.args.self.now (map Delivered r)) all

pub returns-clause-seen : goal.returns-clause-seen
returns-clause-seen g c =
    let all : take c.loop-done.done c.args.aligner.now.ready ≡ c.args.aligner.now.ready = take_all c.loop-done.done c.args.aligner.now.ready (omega (arith, c.loop-done-test.false, c.requires)) in
    subst (λ (r : List (List Bool)). g.W.Watch.saw c.args.watch.now (tell top c.args.number (crc_kinds (checked g.P.InSuperframe.PLAN c.args.self.now (map Delivered r)))) c.loop-done.watch) all c.loop-done.invariant.seen
