use Rattle.std.proofs.Common.{refl}
use Rattle.pdh_events.proofs.Noting.{remembers_none}
use Rattle.pdh_events.proofs.teller.FrameTeller.open.Goals as goal

pub returns : goal.returns
returns g c = remembers_none g.S.Shape.shape _ refl refl c.new.ensures
