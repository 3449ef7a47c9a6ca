use Rattle.pdh_streams.proofs.E1Packing.{packed_is}
use Rattle.pdh_streams.proofs.holding.line_of.Goals as goal

pub returns-in-Ok : goal.returns-in-Ok
returns-in-Ok c = packed_is _ _ c.in-Ok.ensures
