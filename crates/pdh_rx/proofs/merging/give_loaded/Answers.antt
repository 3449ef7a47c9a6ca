use Rattle.std.proofs.Common.{sym, ap}
use Rattle.pdh_rx.specs.Places.{Loaded, loaded_acts}
use Rattle.pdh_rx.proofs.Acting.{acted_ok, acted_same}
use Rattle.pdh_rx.proofs.merging.give_loaded.Goals as goal

pub give_in_room-requires-clause-fits : goal.give_in_room-requires-clause-fits
give_in_room-requires-clause-fits g c = rw c.split.view_is (c.requires.fits c.if-room.true)

pub returns-then-room : goal.returns-then-room
returns-then-room g c = acted_ok (acted_same (ap (λ (l : Loaded). loaded_acts g.S.Shape.shape l.gap l.frame) (sym c.split.view_is)) (c.give_in_room.ensures _))

pub returns : goal.returns
returns g c = acted_same (ap (λ (l : Loaded). loaded_acts g.S.Shape.shape l.gap l.frame) (sym c.split.view_is)) c.give_in_turn.ensures.acted
