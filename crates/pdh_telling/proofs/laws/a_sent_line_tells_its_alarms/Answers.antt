use Rattle.pdh_telling.proofs.SaidLaws.{alarms_told}
use Rattle.pdh_telling.proofs.laws.a_sent_line_tells_its_alarms.Goals as goal

pub returns : goal.returns
returns c s below source bits shape says = alarms_told s below source bits shape says
