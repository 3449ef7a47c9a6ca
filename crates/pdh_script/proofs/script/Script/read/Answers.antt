use Rattle.pdh_row_text.specs.Text.{lines_of}
use Rattle.pdh_script.specs.Stored.{rows_in}
use Rattle.pdh_script.proofs.Growing.{judged_fits}
use Rattle.pdh_script.proofs.script.Script.read.Goals as goal

pub returns-clause-fit : goal.returns-clause-fit
returns-clause-fit c =
    let read = c.in_ok-rows.rows in
    judged_fits (lines_of c.args.text.now) c.args.bits 1 0 (rows_in read.steps.items read.added.items) c.in_ok-rows.ensures.rows
