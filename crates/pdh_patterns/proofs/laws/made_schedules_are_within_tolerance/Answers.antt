use Rattle.pdh_patterns.proofs.MadeClear.{made_clear}
use Rattle.pdh_patterns.proofs.laws.made_schedules_are_within_tolerance.Goals as goal

pub returns : goal.returns
returns c chain frames clock is = made_clear chain frames clock is
