use Rattle.pdh_patterns.proofs.Entered.{no_event}
use Rattle.pdh_duplex.proofs.laws.no_store_meets_an_event.Goals as goal

pub returns : goal.returns
returns c z = no_event z.chain z.frames
