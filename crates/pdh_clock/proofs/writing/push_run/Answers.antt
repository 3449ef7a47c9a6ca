use Rattle.std.proofs.Common.{◌∙◌, ◌++◌, ap, sym}
use Rattle.std.proofs.lemmas.Result.{on_ok_weaker}
use Rattle.pdh_line.specs.Paths.{steps_of}
use Rattle.pdh_row_text.specs.Form.{counts_form}
use Rattle.pdh_clock.specs.Written.{row_line}
use Rattle.pdh_clock.proofs.WrittenRows.{run_none, run_some}
use Rattle.pdh_clock.proofs.writing.push_run.Goals as goal

pub returns-then-run-eq0 : goal.returns-then-run-eq0
returns-then-run-eq0 c = sym (run_none (steps_of c.args.path.now) c.args.text.now.items c.args.run.now c.if-run-eq0.true)

pub returns : goal.returns
returns c =
    let path = steps_of c.args.path.now in
    on_ok_weaker c.push_row.result (λ line. line
    ∙ ap (λ counts. c.args.text.now.items ++ row_line (counts_form path c.args.run.now.frames counts)) c.counts.ensures
    ∙ sym (run_some path c.args.text.now.items c.args.run.now c.if-run-eq0.false)) c.push_row.ensures
