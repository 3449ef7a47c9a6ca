use Rattle.pdh_lab.proofs.InTime.{in_time}
use Rattle.pdh_lab.proofs.laws.drills_are_in_time.Goals as goal

pub returns : goal.returns
returns c chain seed frames few = in_time chain seed frames few
