-- A line that has the form of a row, and whose node has a level.
use Rattle.std.proofs.Common.{◌≡◌, ℕ, List, Option, Some, None, Result, Err, refl, ap, sym, ◌∙◌, subst}
use Rattle.std.specs.Option.{ok_or}
use Rattle.pdh_shape.specs.declared.place.Level.{Level}
use Rattle.pdh_clock.specs.declared.fault.ScheduleFault.{ScheduleFault}
use Rattle.pdh_clock.specs.declared.fault.ScheduleFault.TheVariants.{BadRow, UnknownNode}
use Rattle.pdh_row_text.specs.declared.row.FoundRow.{FoundRow}
use Rattle.pdh_row_text.specs.declared.row.Version.{Version}
use Rattle.pdh_row_text.specs.Form.{Form, form_of}
use Rattle.pdh_clock.specs.Row.{Row}
use Rattle.pdh_levels.specs.Levels.{level_at}
use Rattle.pdh_line.specs.Paths.{steps_of}
use Rattle.pdh_row_text.specs.Parsed.{Finds, IsForm}
use Rattle.pdh_clock.specs.Judged.{◌>>=◌, Gives, stores_judged, row_judged}

-- the row that is there where one was found
record Said (found : FoundRow) (form : Option Form) : Type 0 where
  said : Form
  is : form ≡ Some said
  agrees : IsForm found said

said_of : (found : FoundRow) (form : Option Form) → Finds IsForm (Some found) form → Said found form
said_of found None h = absurd h
said_of found (Some said) h = record { said = said; is = refl; agrees = h }

-- what comes of a form: its node is judged, and then its numbers
abbrev judged_at : List Level → ℕ → Form → Result Row ScheduleFault
judged_at levels number form = ok_or (level_at levels form.path) (UnknownNode number) >>= λ level. stores_judged number level form

-- a line without the form of a row
no_form : (form : Option Form) → Finds IsForm None form → form ≡ None
no_form None h = refl
no_form (Some said) h = absurd h

pub form_fails : (levels : List Level) (version : Version) (number : ℕ) (line : List ℕ) → Finds IsForm None (form_of version line)
    → row_judged levels version number line ≡ Err (BadRow number)
form_fails levels version number line h = ap (λ o. ok_or o (BadRow number) >>= judged_at levels number) (no_form (form_of version line) h)

-- one whose node isn't of the levels
pub node_fails : (levels : List Level) (version : Version) (number : ℕ) (line : List ℕ) (found : FoundRow) → Finds IsForm (Some found) (form_of version line)
    → level_at levels (steps_of found.path) ≡ None → row_judged levels version number line ≡ Err (UnknownNode number)
node_fails levels version number line found h unknown =
    let s = said_of found (form_of version line) h in
    ap (λ o. ok_or o (BadRow number) >>= judged_at levels number) s.is
    ∙ ap (λ o. ok_or o (UnknownNode number) >>= λ level. stores_judged number level s.said) (ap (level_at levels) (sym s.agrees.path) ∙ unknown)

-- one that is judged by its numbers
pub judged_by_numbers : {X : Type 0} (view : X → Row) (answer : Result X ScheduleFault) (levels : List Level) (version : Version) (number : ℕ) (line : List ℕ) (found : FoundRow) (level : Level)
    → Finds IsForm (Some found) (form_of version line) → level_at levels (steps_of found.path) ≡ Some level
    → ((said : Form) → IsForm found said → Gives view answer (stores_judged number level said)) → Gives view answer (row_judged levels version number line)
judged_by_numbers view answer levels version number line found level h known numbers =
    let s = said_of found (form_of version line) h in
    let same : row_judged levels version number line ≡ stores_judged number level s.said =
    ap (λ o. ok_or o (BadRow number) >>= judged_at levels number) s.is
    ∙ ap (λ o. ok_or o (UnknownNode number) >>= λ level. stores_judged number level s.said)
    (ap (level_at levels) (sym s.agrees.path) ∙ known) in
    subst (Gives view answer) (sym same) (numbers s.said s.agrees)
