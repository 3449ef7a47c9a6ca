use Rattle.std.proofs.Common.{◌≡◌, ◌<◌, ◌∙◌, ap, arith, map, [], ◌∷◌}
use Rattle.std.proofs.lemmas.Result.{on_ok_weaker}
use Rattle.pdh_align.specs.declared.step.Step.TheVariants.{Rejected, Aligned, Frame, Lost, Nothing}
use Rattle.pdh_watch.specs.declared.kind.TheConstants.Kind.{ALIGNED, LOST}
use Rattle.pdh_events.specs.Telling.{event_of}
use Rattle.pdh_events.specs.Acts.{rounds_acts, frames_acts}
use Rattle.pdh_events.specs.Acts.Act.{Note}
use Rattle.pdh_rx.proofs.Gains.{on_ok_from}
use Rattle.pdh_rx.proofs.Acting.{acted_notes, acted_nothing, acted_same, acted_join}
use Rattle.pdh_rx.proofs.StepActs.{rejected_whole, rejected_part, step_is, remembers_step}
use Rattle.pdh_rx.proofs.frames.act.Goals as goal

pub returns-in-Aligned-clause-acted : goal.returns-in-Aligned-clause-acted
returns-in-Aligned-clause-acted g c pieces kept =
    let own = event_of c.args.at.path c.args.at.number ALIGNED ∷ [] in
    acted_same (step_is g.S.Shape.shape c.args.at.path c.args.at.number pieces c.args.step Aligned c.args.aligner.now.ready c.args.gap c.in-Aligned.is)
    (acted_join g.met.W.Watch.saw_join g.met.D.Drain.drained_join g.met.C.Rx.sound {a = map Note own} {b = frames_acts g.S.Shape.shape c.args.at.path c.args.at.number pieces c.args.aligner.now.ready} _
    (acted_notes own _ _ _ _ (g.met.D.Drain.drained_same _) c.note_kind.ensures) (c.deliver_all.ensures.acted pieces kept))

pub returns-in-Aligned-clause-remembers : goal.returns-in-Aligned-clause-remembers
returns-in-Aligned-clause-remembers g c =
    on_ok_weaker c.deliver_all.result (λ p pieces kept. remembers_step g.S.Shape.shape _ pieces c.args.step Aligned c.args.aligner.now.ready c.in-Aligned.is (p pieces kept)) c.deliver_all.ensures.remembers

pub returns-in-Frame-clause-acted : goal.returns-in-Frame-clause-acted
returns-in-Frame-clause-acted g c pieces kept =
    acted_same (step_is g.S.Shape.shape c.args.at.path c.args.at.number pieces c.args.step Frame c.args.aligner.now.ready c.args.gap c.in-Frame.is) (c.deliver_all-in-Frame.ensures.acted pieces kept)

pub returns-in-Frame-clause-remembers : goal.returns-in-Frame-clause-remembers
returns-in-Frame-clause-remembers g c =
    on_ok_weaker c.deliver_all-in-Frame.result (λ p pieces kept. remembers_step g.S.Shape.shape _ pieces c.args.step Frame c.args.aligner.now.ready c.in-Frame.is (p pieces kept)) c.deliver_all-in-Frame.ensures.remembers

pub returns-in-Lost-clause-acted : goal.returns-in-Lost-clause-acted
returns-in-Lost-clause-acted g c pieces kept =
    let own = event_of c.args.at.path c.args.at.number LOST ∷ [] in
    acted_same (step_is g.S.Shape.shape c.args.at.path c.args.at.number pieces c.args.step Lost c.args.aligner.now.ready c.args.gap c.in-Lost.is) (acted_notes own _ _ _ _ (g.met.D.Drain.drained_same _) c.note_kind-in-Lost.ensures)

pub returns-in-Lost-clause-remembers : goal.returns-in-Lost-clause-remembers
returns-in-Lost-clause-remembers g c pieces kept = remembers_step g.S.Shape.shape _ pieces c.args.step Lost c.args.aligner.now.ready c.in-Lost.is (c.lose.ensures pieces 0 kept)

pub returns-in-Nothing-clause-acted : goal.returns-in-Nothing-clause-acted
returns-in-Nothing-clause-acted g c pieces kept =
    acted_same (step_is g.S.Shape.shape c.args.at.path c.args.at.number pieces c.args.step Nothing c.args.aligner.now.ready c.args.gap c.in-Nothing.is) (acted_nothing _ _ _ (g.met.D.Drain.drained_same _) (g.met.W.Watch.saw_nothing _))

pub returns-in-Nothing-clause-remembers : goal.returns-in-Nothing-clause-remembers
returns-in-Nothing-clause-remembers g c pieces kept = remembers_step g.S.Shape.shape _ pieces c.args.step Nothing c.args.aligner.now.ready c.in-Nothing.is kept

pub returns-then-gap-gt0-clause-acted : goal.returns-then-gap-gt0-clause-acted
returns-then-gap-gt0-clause-acted g c pieces kept =
    let some : 0 < c.args.gap = omega arith in
    acted_same (rejected_part g.S.Shape.shape c.args.at.path c.args.at.number pieces c.args.step c.args.aligner.now.ready c.args.gap c.in-Rejected.is some) (acted_nothing _ _ _ (g.met.D.Drain.drained_same _) (g.met.W.Watch.saw_nothing _))

pub returns-then-gap-gt0-clause-remembers : goal.returns-then-gap-gt0-clause-remembers
returns-then-gap-gt0-clause-remembers g c pieces kept = remembers_step g.S.Shape.shape _ pieces c.args.step Rejected c.args.aligner.now.ready c.in-Rejected.is kept

pub returns-else-gap-gt0-clause-acted : goal.returns-else-gap-gt0-clause-acted
returns-else-gap-gt0-clause-acted g c pieces kept =
    let s = g.S.Shape.shape in
    let none : c.args.gap ≡ 0 = omega arith in
    acted_same (rejected_whole s c.args.at.path c.args.at.number pieces c.args.step c.args.aligner.now.ready c.args.gap c.in-Rejected.is none ∙ ap (rounds_acts s) g.met.S.Shape.low_is) c.give_ones.ensures.acted

pub returns-else-gap-gt0-clause-remembers : goal.returns-else-gap-gt0-clause-remembers
returns-else-gap-gt0-clause-remembers g c =
    on_ok_from _ c.give_ones.result (λ pieces kept. remembers_step g.S.Shape.shape _ pieces c.args.step Rejected c.args.aligner.now.ready c.in-Rejected.is kept)
