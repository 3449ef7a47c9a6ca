use Rattle.pdh_rows.proofs.Parts.{next_stored}
use Rattle.pdh_clock.proofs.writing.span_of.Goals as goal

pub returns-clause-frames : goal.returns-clause-frames
returns-clause-frames c = rw c.as_slice-firsts.ensures.value (next_stored c.args.table.now c.args.row c.requires.table c.requires.in_range)
