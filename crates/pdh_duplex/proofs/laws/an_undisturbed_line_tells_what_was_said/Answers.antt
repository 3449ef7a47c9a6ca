use Rattle.pdh_duplex.proofs.Told.{tells}
use Rattle.pdh_duplex.proofs.laws.an_undisturbed_line_tells_what_was_said.Goals as goal

pub returns : goal.returns
returns c z is three = tells z is three
