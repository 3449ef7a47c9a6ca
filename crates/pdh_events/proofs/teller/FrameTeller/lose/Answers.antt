use Rattle.std.proofs.Common.{refl}
use Rattle.pdh_events.proofs.Noting.{remembers_lost}
use Rattle.pdh_events.proofs.teller.FrameTeller.lose.Goals as goal

pub returns : goal.returns
returns g c pieces positions is = remembers_lost g.S.Shape.shape c.args.self.now _ pieces positions (cc) refl (cc) is
