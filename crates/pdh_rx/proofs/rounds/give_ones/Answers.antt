use Rattle.std.proofs.Common.{◌≡◌, refl, sym, ap, ◌∙◌, arith}
use Rattle.std.proofs.lemmas.Bool.{false≢true}
use Rattle.pdh_events.specs.Acts.{rounds_acts}
use Rattle.pdh_rx.specs.Places.{loaded_acts, loaded_most}
use Rattle.pdh_rx.proofs.Acting.{acted_ok, acted_same, acted_up_to}
use Rattle.pdh_rx.proofs.rounds.give_ones.Goals as goal

pub give_in_room-requires-clause-fits : goal.give_in_room-requires-clause-fits
give_in_room-requires-clause-fits g c j child at =
    let s = g.S.Shape.shape in
    let most : loaded_most s c.load_ones.new.self.gap ≡ s.low = ap (loaded_most s) c.load_ones.ensures in
    g.met.C.Rx.fits_by child _ _ _ _ (λ k mine. refl) (omega (arith, most, g.met.S.Shape.low_is)) (c.have_room.ensures c.if-have_room.true j child at)

pub returns-then-have_room-clause-acted : goal.returns-then-have_room-clause-acted
returns-then-have_room-clause-acted g c =
    let s = g.S.Shape.shape in
    acted_ok (acted_same (ap (rounds_acts s) (sym g.met.S.Shape.low_is) ∙ ap (λ b. loaded_acts s b c.load_ones.new.self.frame) (sym c.load_ones.ensures)) (c.give_in_room.ensures _))

pub returns-then-one_by_one-clause-acted : goal.returns-then-one_by_one-clause-acted
returns-then-one_by_one-clause-acted g c = acted_up_to g.met.W.Watch.saw_join g.met.D.Drain.drained_join g.met.C.Rx.sound _ c.push_rounds.ensures

pub returns-then-one_by_one-clause-rounds : goal.returns-then-one_by_one-clause-rounds
returns-then-one_by_one-clause-rounds g c leaf = c.push_rounds.ensures.part

pub give_loaded-requires-clause-fits : goal.give_loaded-requires-clause-fits
give_loaded-requires-clause-fits g c room = absurd (false≢true room)

pub returns-clause-acted : goal.returns-clause-acted
returns-clause-acted g c =
    let s = g.S.Shape.shape in
    acted_same (ap (rounds_acts s) (sym g.met.S.Shape.low_is) ∙ ap (λ b. loaded_acts s b c.load_ones.new.self.frame) (sym c.load_ones.ensures)) c.give_loaded.ensures
