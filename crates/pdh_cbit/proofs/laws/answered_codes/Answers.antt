use Rattle.pdh_cbit.proofs.Answered.{answer_of-exactly}
use Rattle.pdh_cbit.proofs.laws.answered_codes.Goals as goal

pub returns : goal.returns
returns c = answer_of-exactly
