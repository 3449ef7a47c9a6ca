use Rattle.pdh_answers.proofs.Lines.{breaks_one}
use Rattle.pdh_answers.proofs.telling.SinkLogSlipLog.slip.Goals as goal

pub returns-in-Err-clause-broken : goal.returns-in-Err-clause-broken
returns-in-Err-clause-broken g c = breaks_one _ _ _ (rw (c.bytes.ensures, c.slip_line.ensures) at c.in-Err.ensures.err)
