use Rattle.std.proofs.Common.{sym}
use Rattle.pdh_script.proofs.Words.{four_words}
use Rattle.pdh_script.proofs.row.row.Goals as goal

pub returns-then-is_some-clause-row : goal.returns-then-is_some-clause-row
returns-then-is_some-clause-row c =
    sym (four_words c.args.line.now c.first_word.result.0.now c.first_word-2.result.0.now c.first_word-3.result.0.now c.first_word.result.1 c.first_word-2.result.1 c.first_word-3.result.1 c.in_ok-rest.field-0 c.in_ok-rest-2.field-0
    c.first_word.ensures.words c.in_ok-rest.was c.first_word-2.ensures.words c.in_ok-rest-2.was c.first_word-3.ensures.words c.if-is_some.ensures)
