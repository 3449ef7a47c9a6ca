use Rattle.pdh_nesting.proofs.Delay.{delayed}
use Rattle.pdh_nesting.proofs.laws.leaves_come_back_in_time.Goals as goal

pub returns : goal.returns
returns c chain counts frames leaf are within known = delayed chain counts frames leaf are within known
