use Rattle.pdh_script.proofs.Brought.{at_once}
use Rattle.pdh_script.proofs.laws.bends_as_applied.Goals as goal

pub returns : goal.returns
returns c rows line fits = at_once rows line fits
