use Rattle.pdh_chain.proofs.Clear.{goes_clear}
use Rattle.pdh_chain.proofs.laws.line_is_clear_within_tolerance.Goals as goal

pub returns : goal.returns
returns c shapes schedule bits is from to upto inputs enough = goes_clear shapes schedule bits is from to upto inputs enough
