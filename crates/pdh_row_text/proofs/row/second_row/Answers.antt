use Rattle.std.proofs.Common.{◌≡◌, ◌∙◌, ℕ, List, ◌∷◌, Option, None, true, false, cond, sym, ap, subst}
use Rattle.std.specs.Prelude.{codes}
use Rattle.std.specs.Option.{option_copied}
use Rattle.std.specs.Str.{bytes_eq}
use Rattle.pdh_row_text.specs.declared.row.Version.TheVariants.{Second}
use Rattle.pdh_row_text.specs.Text.{words_of}
use Rattle.pdh_row_text.specs.Form.{counts_row, rates_row, form_of_words, form_of}
use Rattle.pdh_row_text.specs.Parsed.{Finds, IsForm, words_left}
use Rattle.pdh_row_text.proofs.row.second_row.Goals as goal

-- by the first word of a line
rates_said : (line word : List ℕ) (left : Option (List ℕ)) → words_of line ≡ word ∷ words_left left → bytes_eq word (codes "rate") ≡ true
    → form_of Second line ≡ rates_row (words_left left)
rates_said line word left words is =
    ap (form_of_words Second) words ∙ ap (λ b. cond b (rates_row (words_left left)) (counts_row (word ∷ words_left left))) is

counts_said : (line word : List ℕ) (left : Option (List ℕ)) → words_of line ≡ word ∷ words_left left → bytes_eq word (codes "rate") ≡ false
    → form_of Second line ≡ counts_row (words_of line)
counts_said line word left words isnt =
    ap (form_of_words Second) words ∙ ap (λ b. cond b (rates_row (words_left left)) (counts_row (word ∷ words_left left))) isnt ∙ ap counts_row (sym words)

pub returns-then-eq-clause-row : goal.returns-then-eq-clause-row
returns-then-eq-clause-row c =
    let is : bytes_eq c.first_word.result.0.now (codes "rate") ≡ true = ap (bytes_eq c.first_word.result.0.now) (sym c.as_slice.ensures) ∙ sym c.if-eq.ensures in
    let form = rates_said c.args.line.now c.first_word.result.0.now (option_copied c.first_word.result.1) c.first_word.ensures.words is in
    subst (Finds IsForm c.rates_row.result) (sym (form ∙ ap (λ rest. rates_row (words_left (option_copied rest))) c.in_ok-rest.was)) c.rates_row.ensures.row

pub returns-in_err-rest-clause-row : goal.returns-in_err-rest-clause-row
returns-in_err-rest-clause-row c =
    let is : bytes_eq c.first_word.result.0.now (codes "rate") ≡ true = ap (bytes_eq c.first_word.result.0.now) (sym c.as_slice.ensures) ∙ sym c.if-eq.ensures in
    let form = rates_said c.args.line.now c.first_word.result.0.now (option_copied c.first_word.result.1) c.first_word.ensures.words is in
    rw c.from_residual.ensures (subst (Finds IsForm None) (sym (form ∙ ap (λ rest. rates_row (words_left (option_copied rest))) c.in_err-rest.was)) tt)

pub returns-clause-row : goal.returns-clause-row
returns-clause-row c =
    let isnt : bytes_eq c.first_word.result.0.now (codes "rate") ≡ false = ap (bytes_eq c.first_word.result.0.now) (sym c.as_slice.ensures) ∙ sym c.if-eq.ensures in
    subst (Finds IsForm c.counts_row.result) (sym (counts_said c.args.line.now c.first_word.result.0.now (option_copied c.first_word.result.1) c.first_word.ensures.words isnt)) c.counts_row.ensures.row
