use Rattle.pdh_telling.proofs.SaidLaws.{block_errors_told, no_block_errors}
use Rattle.pdh_telling.proofs.laws.a_sent_line_tells_its_block_errors.Goals as goal

pub returns-clause-said : goal.returns-clause-said
returns-clause-said c s below source bits shape says = block_errors_told s below source bits shape says

pub returns-clause-none : goal.returns-clause-none
returns-clause-none c s below line says = no_block_errors s below says line
