use Rattle.pdh_script.proofs.BroughtLengths.{brings_few}
use Rattle.pdh_script.proofs.laws.bits_bring_no_more_than_rows_add.Goals as goal

pub returns : goal.returns
returns c rows place bits = brings_few rows bits place
