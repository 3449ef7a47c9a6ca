use Rattle.std.proofs.Common.{ap}
use Rattle.std.proofs.lemmas.Result.{on_ok_weaker, on_err_weaker}
use Rattle.pdh_line.specs.Tracking.{track}
use Rattle.pdh_rx.specs.Node.{received_lines, node_meaning}
use Rattle.pdh_rx.specs.laws.NodeLaws.{all_sound}
use Rattle.pdh_rx.proofs.Gains.{on_ok_both, on_ok_each, on_err_each}
use Rattle.pdh_rx.proofs.NodePlays.{node_stands, stands_taken, told_gains, told_part, told_sees, told_sees_part}
use Rattle.pdh_rx.proofs.node.RxNodeRx.push.Goals as goal

pub act-requires-clause-told : goal.act-requires-clause-told
act-requires-clause-told g c = (track g.S.Shape.shape c.requires.stands.0, c.requires.stands.1.remembers)

pub act-requires-clause-children : goal.act-requires-clause-children
act-requires-clause-children g c = record { lines = received_lines g.S.Shape.shape c.requires.stands.0; each = c.requires.stands.1.node.each; lists = c.requires.lists }

pub returns-clause-stands : goal.returns-clause-stands
returns-clause-stands g c =
    on_ok_each _ c.act.result (λ line told.
    let acted = c.act.ensures.acted (track g.S.Shape.shape line) told.remembers in
    on_ok_weaker c.act.result (λ both.
    stands_taken g.C.Rx.stands g.C.Rx.meaning g.S.Shape.shape _ _ _ _ _ _ _ _ _ _ c.act.ensures.aligner (node_stands g.W.Watch.saw g.met.W.Watch.saw_join c.args.self.now.path g.met.S.Shape.is_frame told (c.push-step.ensures.tracks line told.node.aligner) c.gap_after-self.ensures _ _ _ (c.note.ensures.seen line told.ones_are)
    _ _ _ _ _ _ _ _ c.frames_after-self.ensures c.judged_after-self.ensures c.saturating_add-self.ensures c.note.ensures.long (c.note.ensures.counts line told.ones_are) (both.1 (track g.S.Shape.shape line) told.remembers) acted.kept.same both.0))
    (on_ok_both _ _ c.act.result acted.played c.act.ensures.remembers))

pub returns-clause-put : goal.returns-clause-put
returns-clause-put g c =
    on_ok_each _ c.act.result (λ line told.
    let acted = c.act.ensures.acted (track g.S.Shape.shape line) told.remembers in
    on_ok_weaker c.act.result (told_gains g.W.Watch.saw g.met.W.Watch.saw_join c.args.self.now.path g.met.S.Shape.is_frame told (c.push-step.ensures.tracks line told.node.aligner) c.gap_after-self.ensures _ _ _ (c.note.ensures.seen line told.ones_are) _ _ _ acted.kept.same) acted.played)

pub returns-clause-put_err : goal.returns-clause-put_err
returns-clause-put_err g c =
    on_err_each _ c.act.result (λ line told.
    on_err_weaker c.act.result (told_part g.W.Watch.saw g.met.W.Watch.saw_join c.args.self.now.path g.met.S.Shape.is_frame told (c.push-step.ensures.tracks line told.node.aligner) c.gap_after-self.ensures _ _ _ (c.note.ensures.seen line told.ones_are) _ _) (c.act.ensures.acted (track g.S.Shape.shape line) told.remembers).part)

pub returns-clause-seen : goal.returns-clause-seen
returns-clause-seen g c =
    on_ok_each _ c.act.result (λ line told.
    on_ok_weaker c.act.result (told_sees g.W.Watch.saw g.met.W.Watch.saw_join c.args.self.now.path g.met.S.Shape.is_frame told (c.push-step.ensures.tracks line told.node.aligner) c.gap_after-self.ensures _ _ _ (c.note.ensures.seen line told.ones_are) _ _ _) (c.act.ensures.acted (track g.S.Shape.shape line) told.remembers).played)

pub returns-clause-seen_err : goal.returns-clause-seen_err
returns-clause-seen_err g c =
    on_err_each _ c.act.result (λ line told.
    on_err_weaker c.act.result (told_sees_part g.W.Watch.saw g.met.W.Watch.saw_join c.args.self.now.path g.met.S.Shape.is_frame told (c.push-step.ensures.tracks line told.node.aligner) c.gap_after-self.ensures _ _ _ (c.note.ensures.seen line told.ones_are) (all_sound g.C.Rx.meaning g.met.C.Rx.sound c.args.self.now.children) _ _) (c.act.ensures.acted (track g.S.Shape.shape line) told.remembers).part)

pub returns-clause-cause : goal.returns-clause-cause
returns-clause-cause g c = (c.act.ensures.acted (track g.S.Shape.shape c.requires.stands.0) c.requires.stands.1.remembers).kept.cause

pub returns-clause-drained : goal.returns-clause-drained
returns-clause-drained g c = (c.act.ensures.acted (track g.S.Shape.shape c.requires.stands.0) c.requires.stands.1.remembers).kept.drains

pub returns-clause-same : goal.returns-clause-same
returns-clause-same g c = ap (node_meaning g.S.Shape.shape c.args.self.now.path) (c.act.ensures.acted (track g.S.Shape.shape c.requires.stands.0) c.requires.stands.1.remembers).kept.same
