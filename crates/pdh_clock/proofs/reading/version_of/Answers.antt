use Rattle.std.proofs.Common.{◌≡◌, ◌∙◌, ℕ, List, [], ◌∷◌, true, false, cond, length, sym, ap}
use Rattle.std.specs.Prelude.{codes}
use Rattle.std.specs.Str.{bytes_eq}
use Rattle.std.proofs.lemmas.Bool.{eqb-true}
use Rattle.std.proofs.lemmas.List.{nil_from_length}
use Rattle.pdh_shape.specs.declared.place.Level.{Level}
use Rattle.pdh_row_text.specs.declared.row.Version.TheVariants.{First, Second}
use Rattle.pdh_row_text.specs.Text.{lines_of}
use Rattle.pdh_clock.specs.Judged.{rows_judged, versions_judged}
use Rattle.pdh_clock.proofs.reading.version_of.Goals as goal

-- by the first line of a text
second_version : (levels : List Level) (line : List ℕ) (lines : List (List ℕ)) → bytes_eq line (codes "version 2") ≡ true
    → versions_judged levels (line ∷ lines) ≡ rows_judged levels Second 2 lines
second_version levels line lines is = ap (λ b. cond b (rows_judged levels Second 2 lines) (rows_judged levels First 1 (line ∷ lines))) is

first_version : (levels : List Level) (line : List ℕ) (lines : List (List ℕ)) → bytes_eq line (codes "version 2") ≡ false
    → versions_judged levels (line ∷ lines) ≡ rows_judged levels First 1 (line ∷ lines)
first_version levels line lines isnt = ap (λ b. cond b (rows_judged levels Second 2 lines) (rows_judged levels First 1 (line ∷ lines))) isnt

pub returns-then-is_empty-clause-judged : goal.returns-then-is_empty-clause-judged
returns-then-is_empty-clause-judged c = λ levels.
    let none : c.args.text.now ≡ [] = nil_from_length c.args.text.now (eqb-true (length c.args.text.now) 0 (sym c.if-is_empty.ensures)) in
    ap (λ text. versions_judged levels (lines_of text)) none ∙ ap (λ text. rows_judged levels First 1 (lines_of text)) (sym none)

pub returns-then-eq-clause-judged : goal.returns-then-eq-clause-judged
returns-then-eq-clause-judged c = λ levels.
    let is : bytes_eq c.first_line.result.0.now (codes "version 2") ≡ true = ap (bytes_eq c.first_line.result.0.now) (sym c.as_slice.ensures) ∙ sym c.if-eq.ensures in
    ap (versions_judged levels) c.first_line.ensures.lines ∙ second_version levels c.first_line.result.0.now (lines_of c.first_line.result.1.now) is

pub returns-clause-judged : goal.returns-clause-judged
returns-clause-judged c = λ levels.
    let isnt : bytes_eq c.first_line.result.0.now (codes "version 2") ≡ false = ap (bytes_eq c.first_line.result.0.now) (sym c.as_slice.ensures) ∙ sym c.if-eq.ensures in
    ap (versions_judged levels) c.first_line.ensures.lines ∙ first_version levels c.first_line.result.0.now (lines_of c.first_line.result.1.now) isnt
    ∙ ap (rows_judged levels First 1) (sym c.first_line.ensures.lines)
