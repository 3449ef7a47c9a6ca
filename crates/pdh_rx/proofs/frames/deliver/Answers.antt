use Rattle.std.proofs.Common.{◌∙◌, ◌++◌, ◌∷◌, refl, sym, ap, subst, map, length, [], Bool, false, List, arith}
use Rattle.std.specs.Prelude.{flat_map}
use Rattle.pdh_shape.specs.Frame.{slots}
use Rattle.pdh_line.specs.Tracking.Piece.{Delivered}
use Rattle.pdh_align.specs.Aligning.{frame_back}
use Rattle.pdh_events.specs.Duties.{frame_events}
use Rattle.pdh_events.specs.Keeping.{Remembers}
use Rattle.pdh_events.specs.Acts.{slot_acts}
use Rattle.pdh_events.specs.Acts.Act.{Note}
use Rattle.pdh_rx.specs.Places.{loaded_acts}
use Rattle.pdh_rx.proofs.Acting.{acted_notes, acted_same, acted_join}
use Rattle.pdh_rx.proofs.Deaf.{acted_deaf}
use Rattle.pdh_rx.proofs.Fitting.{most_few}
use Rattle.pdh_rx.proofs.Standing.{loaded_give}
use Rattle.pdh_rx.proofs.SlotActs.{frame_acts_is}
use Rattle.pdh_rx.proofs.frames.deliver.Goals as goal

pub note-requires-clause-whole : goal.note-requires-clause-whole
note-requires-clause-whole g c = ap length c.frame.ensures ∙ c.load.ensures.whole

pub give_loaded-requires-clause-fits : goal.give_loaded-requires-clause-fits
give_loaded-requires-clause-fits g c room j child at =
    let s = g.S.Shape.shape in
    g.met.C.Rx.fits_by child _ _ _ _ (λ k mine. refl) (most_few s c.load.new.self.gap c.LOW.result (omega (arith, c.LOW.ensures, g.met.S.Shape.low_is))) (c.have_room-room.ensures room j child at)

pub returns-then-are_deaf-clause-acted : goal.returns-then-are_deaf-clause-acted
returns-then-are_deaf-clause-acted g c pieces kept =
    let s = g.S.Shape.shape in
    let frame = frame_back c.args.aligner.now.ready c.args.back in
    let events = frame_events s c.args.at.path c.args.at.number pieces frame in
    let P : List Bool → Type 0 = λ f. g.W.Watch.saw c.args.watch.now (frame_events s c.args.at.path c.args.at.number pieces f) c.note.new.watch in
    acted_same (frame_acts_is s c.args.at.path c.args.at.number pieces frame)
    (acted_join g.met.W.Watch.saw_join g.met.D.Drain.drained_join g.met.C.Rx.sound {a = map Note events} {b = flat_map (slot_acts s frame) (slots s)} _
    (acted_notes events _ _ _ _ (g.met.D.Drain.drained_same _) (subst P (c.frame.ensures ∙ c.load.ensures.frame) (c.note.ensures.seen pieces kept)))
    (acted_deaf (c.are_deaf.ensures c.if-are_deaf.true) (loaded_give s false frame g.met.S.Shape.in_turn) (g.met.D.Drain.drained_same _) (g.met.W.Watch.saw_nothing _)))

pub returns-then-are_deaf-clause-remembers : goal.returns-then-are_deaf-clause-remembers
returns-then-are_deaf-clause-remembers g c pieces kept =
    let P : List Bool → Type 0 = λ f. Remembers g.S.Shape.shape c.note.new.self (pieces ++ Delivered f ∷ []) in
    subst P (c.frame.ensures ∙ c.load.ensures.frame) (c.note.ensures.remembers pieces kept)

pub returns-clause-acted : goal.returns-clause-acted
returns-clause-acted g c pieces kept =
    let s = g.S.Shape.shape in
    let frame = frame_back c.args.aligner.now.ready c.args.back in
    let events = frame_events s c.args.at.path c.args.at.number pieces frame in
    let P : List Bool → Type 0 = λ f. g.W.Watch.saw c.args.watch.now (frame_events s c.args.at.path c.args.at.number pieces f) c.note.new.watch in
    acted_same (frame_acts_is s c.args.at.path c.args.at.number pieces frame)
    (acted_join g.met.W.Watch.saw_join g.met.D.Drain.drained_join g.met.C.Rx.sound {a = map Note events} {b = flat_map (slot_acts s frame) (slots s)} _
    (acted_notes events _ _ _ _ (g.met.D.Drain.drained_same _) (subst P (c.frame.ensures ∙ c.load.ensures.frame) (c.note.ensures.seen pieces kept)))
    (acted_same (ap (λ f. loaded_acts s false f) (sym c.load.ensures.frame) ∙ ap (λ b. loaded_acts s b c.load.new.self.frame) (sym c.load.ensures.gap)) c.give_loaded.ensures))

pub returns-clause-remembers : goal.returns-clause-remembers
returns-clause-remembers g c pieces kept =
    let P : List Bool → Type 0 = λ f. Remembers g.S.Shape.shape c.note.new.self (pieces ++ Delivered f ∷ []) in
    subst P (c.frame.ensures ∙ c.load.ensures.frame) (c.note.ensures.remembers pieces kept)
