use Rattle.std.proofs.Common.{List, ◌++◌, sym, subst, map}
use Rattle.pdh_watch.specs.declared.event.Event.{Event}
use Rattle.pdh_line.specs.Paths.{top}
use Rattle.pdh_line.specs.Tracking.Piece.{Delivered}
use Rattle.pdh_events.specs.Telling.{tell, ais_kinds}
use Rattle.pdh_ds1.specs.declared.plan.SuperframePlan.{SuperframePlan}
use Rattle.pdh_ds1_events.specs.Events.{crc_kinds}
use Rattle.pdh_ds1_events.specs.Checking.{checked, step_kinds}
use Rattle.pdh_ds1_events.proofs.CheckLaws.{step_events}
use Rattle.pdh_ds1_events.proofs.LineLaws.{stands_push}
use Rattle.pdh_ds1_events.proofs.line.SuperframeLineRecorded.push.Goals as goal

pub returns-clause-stands : goal.returns-clause-stands
returns-clause-stands g c line told =
    stands_push g.P.InSuperframe.f_bits g.P.InSuperframe.PLAN line c.args.bit told (c.push-step.ensures.tracks line told.aligner_is) c.note.ensures.long (c.note.ensures.counts line told.ones_are)
    c.act.ensures.word c.saturating_add-self.ensures c.frames_after-self.ensures c.judged_after-self.ensures

pub returns-clause-seen : goal.returns-clause-seen
returns-clause-seen g c line told =
    let plan : SuperframePlan = g.P.InSuperframe.PLAN in
    let tracks = c.push-step.ensures.tracks line told.aligner_is in
    let ready = c.push-step.new.self.ready in
    let old = c.args.self.now in
    let ais = subst (λ n. g.W.Watch.saw c.args.watch.now (tell top n (ais_kinds plan.len line c.args.bit)) c.note.new.watch) told.bits_are
    (subst (λ n. g.W.Watch.saw c.args.watch.now (tell top old.bits (ais_kinds n line c.args.bit)) c.note.new.watch) told.long_is (c.note.ensures.seen line told.ones_are)) in
    let acted = subst (λ n. g.W.Watch.saw c.note.new.watch (tell top n (step_kinds c.push-step.result ++ crc_kinds (checked plan old.checker (map Delivered ready)))) c.act.new.watch) told.bits_are c.act.ensures.seen in
    subst (λ (x : List Event). g.W.Watch.saw c.args.watch.now x c.act.new.watch)
    (sym (step_events g.P.InSuperframe.f_bits plan old.checker c.push-step.result ready line c.args.bit g.met.P.InSuperframe.is_plan tracks.grows told.word_is))
    (g.met.W.Watch.saw_join _ _ _ _ _ ais acted)
