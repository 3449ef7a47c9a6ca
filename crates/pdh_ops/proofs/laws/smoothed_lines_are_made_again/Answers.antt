use Rattle.pdh_ops.proofs.MadeAgain.{made_again}
use Rattle.pdh_ops.proofs.laws.smoothed_lines_are_made_again.Goals as goal

pub returns : goal.returns
returns c = record { made = λ chain feac line files. made_again chain feac line files }
