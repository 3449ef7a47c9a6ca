use Rattle.pdh_duplex.proofs.Received.{delivers}
use Rattle.pdh_duplex.proofs.laws.an_undisturbed_line_is_delivered.Goals as goal

pub returns : goal.returns
returns c z is three = delivers z is three
