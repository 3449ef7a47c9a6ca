use Rattle.std.proofs.Common.{◌≡◌, ℕ, List, Bool, [], ◌∷◌, ◌++◌, length, map, refl, sym, ap, ◌∙◌, subst, arith}
use Rattle.std.specs.Prelude.{Option}
use Rattle.pdh_watch.specs.declared.kind.Kind.{Kind}
use Rattle.pdh_watch.specs.declared.kind.TheConstants.Kind.{LOST}
use Rattle.pdh_line.specs.Paths.{top}
use Rattle.pdh_line.specs.Tracking.Piece.{Delivered}
use Rattle.pdh_align.specs.declared.step.Step.{Step}
use Rattle.pdh_align.specs.declared.step.Step.TheVariants.{Rejected, Lost, Nothing}
use Rattle.pdh_align.specs.Aligning.{frames_gained}
use Rattle.pdh_events.specs.Telling.{tell}
use Rattle.pdh_ds1.specs.declared.plan.SuperframePlan.{SuperframePlan}
use Rattle.pdh_ds1_events.specs.Events.{crc_kinds}
use Rattle.pdh_ds1_events.specs.Checking.{checked, step_kinds, word_after}
use Rattle.pdh_ds1_events.proofs.CheckLaws.{nothing_ready, nothing_behind}
use Rattle.pdh_ds1_events.proofs.checker.Checker.act.Goals as goal

-- a step that makes none ready
none_of : (ready : List (List Bool)) → length ready ≡ 0 → ready ≡ []
none_of [] e = refl
none_of (x ∷ ready) e = absurd (omega (arith, e))

none_ready : (step is : Step) (ready : List (List Bool)) → length ready ≡ frames_gained step → step ≡ is → frames_gained is ≡ 0 → ready ≡ []
none_ready step is ready count same none = none_of ready (count ∙ ap frames_gained same ∙ none)

-- it shows nothing of them
none_shown : (plan : SuperframePlan) (word : Option ℕ) (ready : List (List Bool)) → ready ≡ [] → crc_kinds (checked plan word (map Delivered ready)) ≡ []
none_shown plan word ready none = ap crc_kinds (nothing_ready plan word ready none)

pub returns-in-Aligned-clause-word : goal.returns-in-Aligned-clause-word
returns-in-Aligned-clause-word g c =
    c.check_all.ensures.word ∙ sym (ap (λ v. word_after g.P.InSuperframe.PLAN c.args.self.now v (map Delivered c.args.aligner.now.ready)) c.in-Aligned.is)

pub returns-in-Aligned-clause-seen : goal.returns-in-Aligned-clause-seen
returns-in-Aligned-clause-seen g c =
    let shown : List Kind = crc_kinds (checked g.P.InSuperframe.PLAN c.args.self.now (map Delivered c.args.aligner.now.ready)) in
    subst (λ (v : Step). g.W.Watch.saw c.args.watch.now (tell top c.args.number (step_kinds v ++ shown)) c.check_all.new.watch) (sym c.in-Aligned.is)
    (g.met.W.Watch.saw_join _ _ _ _ _ c.note_kind.ensures c.check_all.ensures.seen)

pub returns-in-Frame-clause-word : goal.returns-in-Frame-clause-word
returns-in-Frame-clause-word g c =
    c.check_all-in-Frame.ensures.word ∙ sym (ap (λ v. word_after g.P.InSuperframe.PLAN c.args.self.now v (map Delivered c.args.aligner.now.ready)) c.in-Frame.is)

pub returns-in-Frame-clause-seen : goal.returns-in-Frame-clause-seen
returns-in-Frame-clause-seen g c =
    let shown : List Kind = crc_kinds (checked g.P.InSuperframe.PLAN c.args.self.now (map Delivered c.args.aligner.now.ready)) in
    subst (λ (v : Step). g.W.Watch.saw c.args.watch.now (tell top c.args.number (step_kinds v ++ shown)) c.check_all-in-Frame.new.watch) (sym c.in-Frame.is) c.check_all-in-Frame.ensures.seen

pub returns-in-Lost-clause-word : goal.returns-in-Lost-clause-word
returns-in-Lost-clause-word g c = c.end.ensures ∙ sym (ap (λ v. word_after g.P.InSuperframe.PLAN c.args.self.now v (map Delivered c.args.aligner.now.ready)) c.in-Lost.is)

pub returns-in-Lost-clause-seen : goal.returns-in-Lost-clause-seen
returns-in-Lost-clause-seen g c =
    let shown : List Kind = crc_kinds (checked g.P.InSuperframe.PLAN c.args.self.now (map Delivered c.args.aligner.now.ready)) in
    let none : shown ≡ [] = none_shown g.P.InSuperframe.PLAN c.args.self.now c.args.aligner.now.ready (none_ready c.args.step Lost c.args.aligner.now.ready c.requires c.in-Lost.is refl) in
    subst (λ (v : Step). g.W.Watch.saw c.args.watch.now (tell top c.args.number (step_kinds v ++ shown)) c.note_kind-in-Lost.new.watch) (sym c.in-Lost.is)
    (subst (λ (k : List Kind). g.W.Watch.saw c.args.watch.now (tell top c.args.number (LOST ∷ k)) c.note_kind-in-Lost.new.watch) (sym none) c.note_kind-in-Lost.ensures)

pub returns-in-Rejected-clause-word : goal.returns-in-Rejected-clause-word
returns-in-Rejected-clause-word g c =
    sym (
    ap (λ v. word_after g.P.InSuperframe.PLAN c.args.self.now v (map Delivered c.args.aligner.now.ready)) c.in-Rejected.is
    ∙ nothing_behind g.P.InSuperframe.PLAN c.args.self.now c.args.aligner.now.ready (none_ready c.args.step Rejected c.args.aligner.now.ready c.requires c.in-Rejected.is refl)
    )

pub returns-in-Rejected-clause-seen : goal.returns-in-Rejected-clause-seen
returns-in-Rejected-clause-seen g c =
    let shown : List Kind = crc_kinds (checked g.P.InSuperframe.PLAN c.args.self.now (map Delivered c.args.aligner.now.ready)) in
    let none : shown ≡ [] = none_shown g.P.InSuperframe.PLAN c.args.self.now c.args.aligner.now.ready (none_ready c.args.step Rejected c.args.aligner.now.ready c.requires c.in-Rejected.is refl) in
    subst (λ (v : Step). g.W.Watch.saw c.args.watch.now (tell top c.args.number (step_kinds v ++ shown)) c.args.watch.now) (sym c.in-Rejected.is)
    (subst (λ (k : List Kind). g.W.Watch.saw c.args.watch.now (tell top c.args.number k) c.args.watch.now) (sym none) (g.met.W.Watch.saw_nothing _))

pub returns-in-Nothing-clause-word : goal.returns-in-Nothing-clause-word
returns-in-Nothing-clause-word g c =
    sym (
    ap (λ v. word_after g.P.InSuperframe.PLAN c.args.self.now v (map Delivered c.args.aligner.now.ready)) c.in-Nothing.is
    ∙ nothing_behind g.P.InSuperframe.PLAN c.args.self.now c.args.aligner.now.ready (none_ready c.args.step Nothing c.args.aligner.now.ready c.requires c.in-Nothing.is refl)
    )

pub returns-in-Nothing-clause-seen : goal.returns-in-Nothing-clause-seen
returns-in-Nothing-clause-seen g c =
    let shown : List Kind = crc_kinds (checked g.P.InSuperframe.PLAN c.args.self.now (map Delivered c.args.aligner.now.ready)) in
    let none : shown ≡ [] = none_shown g.P.InSuperframe.PLAN c.args.self.now c.args.aligner.now.ready (none_ready c.args.step Nothing c.args.aligner.now.ready c.requires c.in-Nothing.is refl) in
    subst (λ (v : Step). g.W.Watch.saw c.args.watch.now (tell top c.args.number (step_kinds v ++ shown)) c.args.watch.now) (sym c.in-Nothing.is)
    (subst (λ (k : List Kind). g.W.Watch.saw c.args.watch.now (tell top c.args.number k) c.args.watch.now) (sym none) (g.met.W.Watch.saw_nothing _))
