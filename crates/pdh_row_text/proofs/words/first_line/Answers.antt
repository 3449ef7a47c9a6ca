use Rattle.std.proofs.Common.{◌≡◌, ◌∙◌, [], ap, unwrap_or}
use Rattle.pdh_row_text.proofs.Splits.{lines_of_first, now-unwrap_or}
use Rattle.pdh_row_text.proofs.words.first_line.Goals as goal

pub returns-clause-lines : goal.returns-clause-lines
returns-clause-lines c =
    let rest : c.unwrap_or.result.now ≡ _ = ap (λ r. r.now) c.unwrap_or.ensures ∙ now-unwrap_or c.split_once.result.1 _
    ∙ ap (λ o. unwrap_or o []) c.split_once.ensures.rest in
    rw (rest, c.split_once.ensures.front) (lines_of_first c.args.text.now c.requires)
