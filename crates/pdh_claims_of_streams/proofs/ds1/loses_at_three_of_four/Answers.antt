use Rattle.pdh_ds.specs.Loss.{window_wrong}
use Rattle.pdh_claims_of_streams.proofs.ds1.loses_at_three_of_four.Goals as goal

pub returns-clause-superframes : goal.returns-clause-superframes
unfolding window_wrong
returns-clause-superframes c = c.loses.ensures

pub returns-clause-extended : goal.returns-clause-extended
unfolding window_wrong
returns-clause-extended c = c.loses-2.ensures
