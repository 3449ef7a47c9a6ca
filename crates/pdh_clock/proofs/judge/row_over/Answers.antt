use Rattle.std.proofs.Common.{◌∙◌, nat_lt, find, ap, sym}
use Rattle.pdh_clock.specs.Judged.{first_over}
use Rattle.pdh_row_text.specs.Parsed.{numbers_found}
use Rattle.pdh_clock.proofs.judge.row_over.Goals as goal

pub returns-in-Counts : goal.returns-in-Counts
returns-in-Counts c =
    c.count_over.ensures ∙ ap (find (nat_lt c.args.most)) c.as_slice.ensures
    ∙ ap (λ says. first_over c.args.most says (numbers_found c.args.row.now.numbers)) (sym c.in-Counts.is)
