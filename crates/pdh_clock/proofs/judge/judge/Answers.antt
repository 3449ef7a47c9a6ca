use Rattle.std.proofs.Common.{◌≡◌, ◌∙◌, Ok, Err, ap, sym, arith}
use Rattle.std.proofs.lemmas.Result.{err_from_is_err_and}
use Rattle.std.proofs.lemmas.List.{length-take}
use Rattle.std.specs.Option.{option_map_or}
use Rattle.pdh_line.specs.Paths.{steps_of}
use Rattle.pdh_levels.proofs.LevelLaws.{level_is, stores_few}
use Rattle.pdh_row_text.specs.Parsed.{form_found}
use Rattle.pdh_clock.specs.Row.{ratio_of, row_of}
use Rattle.pdh_clock.specs.Stored.{row_in}
use Rattle.pdh_clock.proofs.Judging.{form_fails, node_fails, judged_by_numbers}
use Rattle.pdh_clock.proofs.judge.judge.Goals as goal
use Rattle.pdh_rows.specs.Flows.{each}

pub returns-in_default-clause-judged : goal.returns-in_default-clause-judged
returns-in_default-clause-judged c = form_fails c.args.levels.now c.args.version c.args.number c.args.line.now c.in_default.ensures.row

pub returns-in_default-level_of-clause-judged : goal.returns-in_default-level_of-clause-judged
returns-in_default-level_of-clause-judged c =
    node_fails c.args.levels.now c.args.version c.args.number c.args.line.now c.in-Some.row c.in-Some.ensures.row (sym c.in_default-level_of.ensures)

pub judge_numbers-requires : goal.judge_numbers-requires
judge_numbers-requires c = level_is c.args.levels.now (steps_of c.in-Some.row.path) c.in-Some-level_of.level c.requires (sym c.in-Some-level_of.ensures)

pub returns-in_err-judge_numbers-clause-judged : goal.returns-in_err-judge_numbers-clause-judged
returns-in_err-judge_numbers-clause-judged c =
    let p = err_from_is_err_and c.from_residual.result c.from_residual.ensures.1 in
    rw (p.1, p.2) (judged_by_numbers (λ found. row_in c.args.levels.now (form_found found)) (Err c.in_err-judge_numbers.field-0.0) c.args.levels.now c.args.version c.args.number c.args.line.now
    c.in-Some.row c.in-Some-level_of.level c.in-Some.ensures.row (sym c.in-Some-level_of.ensures) c.in_err-judge_numbers.ensures.judged)

pub returns-clause-judged : goal.returns-clause-judged
returns-clause-judged c =
    let form = form_found c.in-Some.row in
    let same : row_of (ratio_of c.in-Some-level_of.level) form ≡ row_in c.args.levels.now form =
    ap (λ o. row_of (option_map_or ratio_of o (each 0)) form) c.in-Some-level_of.ensures in
    judged_by_numbers (λ found. row_in c.args.levels.now (form_found found)) (Ok c.in-Some.row) c.args.levels.now c.args.version c.args.number c.args.line.now
    c.in-Some.row c.in-Some-level_of.level c.in-Some.ensures.row (sym c.in-Some-level_of.ensures)
    (λ said agrees. c.in_ok-judge_numbers.ensures.judged said agrees ∙ ap Ok same)

pub returns-clause-few : goal.returns-clause-few
returns-clause-few c =
    let level = level_is c.args.levels.now (steps_of c.in-Some.row.path) c.in-Some-level_of.level c.requires (sym c.in-Some-level_of.ensures) in
    omega (arith, level.most, stores_few c.in-Some-level_of.level, c.in_ok-judge_numbers.ensures.stores)

pub returns-clause-lens : goal.returns-clause-lens
returns-clause-lens c = omega (arith, length-take c.in-Some.row.numbers.number c.in-Some.row.numbers.first, c.in-Some.ensures.lens)
