use Rattle.pdh_chain.proofs.Tolerated.{no_event}
use Rattle.pdh_chain.proofs.laws.no_event_within_tolerance.Goals as goal

pub returns : goal.returns
returns c shapes counts bits is scheduled size x less = no_event shapes counts bits is scheduled size x less
