use Rattle.pdh_duplex.proofs.Received.{received}
use Rattle.pdh_duplex.proofs.laws.each_end_receives_the_disturbed_line.Goals as goal

pub returns : goal.returns
returns c z is = received z is
