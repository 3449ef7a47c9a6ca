-- The rows of a text, line by line.
use Rattle.std.proofs.Common.{◌≡◌, ℕ, suc, ◌+◌, ◌*◌, ◌<◌, ◌≤◌, Bool, true, false, cond, List, [], ◌∷◌, ◌++◌, length, take, drop, nat_lt, Option, Some, None, Result, Ok, Err, refl, sym, ap, subst, ◌∙◌, arith, append_assoc, add-one}
use Rattle.std.specs.Option.{ok_or}
use Rattle.std.proofs.lemmas.Bool.{ltb-false}
use Rattle.std.proofs.lemmas.List.{length-drop, nil_from_length, take-take, take-append-le, drop-append-le}
use Rattle.pdh_row_text.specs.Text.{is_passed_over}
use Rattle.pdh_row_text.specs.Text.{lines_of}
use Rattle.pdh_script.specs.RowText.{row_of}
use Rattle.pdh_script.specs.ScriptText.{◌>>=◌, placed, row_judged, rows_judged}
use Rattle.pdh_script.specs.Scripts.{Row, Add, FitFrom, end_of, row}
use Rattle.pdh_script.specs.Stored.{change_in, count_added, row_in, rows_in, steps_add}
use Rattle.pdh_script.specs.declared.fault.ScriptFault.{ScriptFault}
use Rattle.pdh_script.specs.declared.fault.ScriptFault.TheVariants.{BadRow, PastEnd}
use Rattle.pdh_script.specs.declared.step.Edit.{Edit}
use Rattle.pdh_script.specs.declared.step.Edit.TheVariants as edits
use Rattle.pdh_script.specs.declared.step.Step.{Step}

-- ---- steps

-- a change takes no more bytes than it adds
change_taken : (edit : Edit) (bytes : List ℕ) → change_in edit (take (count_added edit) bytes) ≡ change_in edit bytes
change_taken (edits.Alter effect bits) bytes = refl
change_taken (edits.Add count) bytes = ap Add (take-take count count bytes (omega arith))

row_same : (step : Step) (a b : List ℕ) → change_in step.edit a ≡ change_in step.edit b → row_in step a ≡ row_in step b
row_same step a b same = ap (λ change. row step.at change) same

change_front : (edit : Edit) (bytes more : List ℕ) → count_added edit ≤ length bytes → change_in edit (bytes ++ more) ≡ change_in edit bytes
change_front (edits.Alter effect bits) bytes more h = refl
change_front (edits.Add count) bytes more h = ap Add (take-append-le count bytes more h)

-- one more step, with its bytes
rows_push : (steps : List Step) (added : List ℕ) (step : Step) (bytes : List ℕ) → steps_add steps ≡ length added
    → rows_in (steps ++ step ∷ []) (added ++ take (count_added step.edit) bytes) ≡ rows_in steps added ++ row_in step bytes ∷ []
rows_push [] added step bytes whole =
    let n = count_added step.edit in
    let none : added ≡ [] = nil_from_length added (sym whole) in
    ap (λ v. rows_in (step ∷ []) (v ++ take n bytes)) none ∙ ap (λ row. row ∷ []) (row_same step (take n bytes) bytes (change_taken step.edit bytes))
rows_push (first ∷ steps) added step bytes whole =
    let n = count_added first.edit in
    let more = take (count_added step.edit) bytes in
    let within : n ≤ length added = omega (arith, whole) in
    let later : steps_add steps ≡ length (drop n added) = omega (arith, whole, length-drop n added) in
    ap (λ row. row ∷ rows_in (steps ++ step ∷ []) (drop n (added ++ more))) (row_same first (added ++ more) added (change_front first.edit added more within))
    ∙ ap (λ v. row_in first added ∷ rows_in (steps ++ step ∷ []) v) (drop-append-le n added more within)
    ∙ ap (λ rows. row_in first added ∷ rows) (rows_push steps (drop n added) step bytes later)

steps_push : (steps : List Step) (step : Step) → steps_add (steps ++ step ∷ []) ≡ steps_add steps + count_added step.edit
steps_push [] step = omega arith
steps_push (first ∷ steps) step = omega (arith, steps_push steps step)

-- ---- rows that were judged are in order

ok_same : {X : Type 0} (x y : X) → (let read : X → Result X ScriptFault = λ v. Ok v in read x ≡ read y) → x ≡ y
ok_same x y h = cc

no_ok : {X : Type 0} (fault : ScriptFault) (x : X) → (let no : Result X ScriptFault = Err fault in let yes : Result X ScriptFault = Ok x in no ≡ yes) → ⊥
no_ok fault x h = cc

placed_by : (before behind : Bool) (found row : Row) (bad late : ScriptFault) → (let said : Result Row ScriptFault = cond before (Err bad) (cond behind (Err late) (Ok found)) in said ≡ Ok row)
    → (before ≡ false) × (behind ≡ false) × (found ≡ row)
placed_by true behind found row bad late h = absurd (no_ok bad row h)
placed_by false true found row bad late h = absurd (no_ok late row h)
placed_by false false found row bad late h = (refl, refl, ok_same found row h)

placed_sound : (bits number place : ℕ) (found row : Row) → placed bits number place found ≡ Ok row → (place ≤ row.at) × (end_of row ≤ bits)
placed_sound bits number place found row h =
    let p = placed_by (nat_lt found.at place) (nat_lt bits (end_of found)) found row (BadRow number) (PastEnd number) h in
    let same : found ≡ row = p.2 in
    let order : place ≤ found.at = ltb-false found.at place p.0 in
    let ends : end_of found ≤ bits = ltb-false bits (end_of found) p.1 in
    let P : Row → Type 0 = λ r. (place ≤ r.at) × (end_of r ≤ bits) in
    subst P same (order, ends)

judged_sound : (bits number place : ℕ) (found : Option Row) (row : Row) → (ok_or found (BadRow number) >>= λ row. placed bits number place row) ≡ Ok row → (place ≤ row.at) × (end_of row ≤ bits)
judged_sound bits number place None row h = absurd (no_ok (BadRow number) row h)
judged_sound bits number place (Some found) row h = placed_sound bits number place found row h

more_fits : (row : Row) (read : Result (List Row) ScriptFault) (place bits : ℕ) (rows : List Row) → (place ≤ row.at) × (end_of row ≤ bits) → ((later : List Row) → read ≡ Ok later → FitFrom (end_of row) bits later)
    → (read >>= λ rows. Ok (row ∷ rows)) ≡ Ok rows → FitFrom place bits rows
more_fits row (Err fault) place bits rows sound fits h = absurd (no_ok fault rows h)
more_fits row (Ok later) place bits rows sound fits h = subst (FitFrom place bits) (ok_same (row ∷ later) rows h) (sound.0, sound.1, fits later refl)

line_fits : (passed : Bool) (judged : Result Row ScriptFault) (bits number place : ℕ) (lines : List (List ℕ)) (rows : List Row) → ((row : Row) → judged ≡ Ok row → (place ≤ row.at) × (end_of row ≤ bits))
    → ((next : ℕ) (later : List Row) → rows_judged bits (suc number) next lines ≡ Ok later → FitFrom next bits later)
    → cond passed (rows_judged bits (suc number) place lines) (judged >>= λ row. rows_judged bits (suc number) (end_of row) lines >>= λ rows. Ok (row ∷ rows)) ≡ Ok rows → FitFrom place bits rows
line_fits true judged bits number place lines rows sound fits h = fits place rows h
line_fits false (Err fault) bits number place lines rows sound fits h = absurd (no_ok fault rows h)
line_fits false (Ok row) bits number place lines rows sound fits h =
    more_fits row (rows_judged bits (suc number) (end_of row) lines) place bits rows (sound row refl) (λ later e. fits (end_of row) later e) h

pub judged_fits : (lines : List (List ℕ)) (bits number place : ℕ) (rows : List Row) → rows_judged bits number place lines ≡ Ok rows → FitFrom place bits rows
judged_fits [] bits number place rows h = subst (FitFrom place bits) (ok_same [] rows h) tt
judged_fits (line ∷ lines) bits number place rows h =
    line_fits (is_passed_over line) (row_judged bits number place line) bits number place lines rows (λ row e. judged_sound bits number place (row_of line) row e)
    (λ next later e. judged_fits lines bits (suc number) next later e) h

-- ---- lines

-- what is read, with rows that stand before it
abbrev pub with_front : List Row → Result (List Row) ScriptFault → Result (List Row) ScriptFault
with_front front read = read >>= λ rows. Ok (front ++ rows)

-- what the reading keeps: with the rows that are left, those so far are those of the whole text
pub record IsReading (bits number place : ℕ) (steps : List Step) (added rest text : List ℕ) : Type 0 where
  pub whole : steps_add steps ≡ length added
  pub same : with_front (rows_in steps added) (rows_judged bits (number + 1) place (lines_of rest)) ≡ rows_judged bits 1 0 (lines_of text)
  pub bytes : 2 * length added + length rest ≤ length text
  pub lines : number + length rest ≤ length text

none_before : (read : Result (List Row) ScriptFault) → with_front [] read ≡ read
none_before (Ok rows) = refl
none_before (Err fault) = refl

pub reading_begins : (bits : ℕ) (text : List ℕ) → IsReading bits 0 0 [] [] text text
reading_begins bits text = record {
  whole = refl;
  same = ap (λ n. with_front [] (rows_judged bits n 0 (lines_of text))) (let e : 0 + 1 ≡ 1 = omega arith in e) ∙ none_before (rows_judged bits 1 0 (lines_of text));
  bytes = omega arith;
  lines = omega arith;
}

with_one_more : (front : List Row) (row : Row) (read : Result (List Row) ScriptFault)
    → with_front (front ++ row ∷ []) read ≡ with_front front (read >>= λ rows. Ok (row ∷ rows))
with_one_more front row (Ok rows) = ap Ok (append_assoc front (row ∷ []) rows)
with_one_more front row (Err fault) = refl

-- a line that is a row
row_read : (bits number place : ℕ) (line : List ℕ) (lines : List (List ℕ)) (front : List Row) (row : Row) → is_passed_over line ≡ false → row_judged bits number place line ≡ Ok row
    → with_front (front ++ row ∷ []) (rows_judged bits (number + 1) (end_of row) lines) ≡ with_front front (rows_judged bits number place (line ∷ lines))
row_read bits number place line lines front row kept judged =
    let passed = rows_judged bits (suc number) place lines in
    let reads = λ (answer : Result Row ScriptFault). answer >>= λ row. rows_judged bits (suc number) (end_of row) lines >>= λ rows. Ok (row ∷ rows) in
    ap (λ n. with_front (front ++ row ∷ []) (rows_judged bits n (end_of row) lines)) (add-one number) ∙ with_one_more front row (rows_judged bits (suc number) (end_of row) lines)
    ∙ ap (λ answer. with_front front (reads answer)) (sym judged)
    ∙ ap (λ b. with_front front (cond b passed (reads (row_judged bits number place line)))) (sym kept)

-- one more row was read
pub reads_row : (bits number place end : ℕ) (steps steps' : List Step) (added added' : List ℕ) (step : Step) (bytes line rest after text : List ℕ)
    → IsReading bits number place steps added rest text
    → lines_of rest ≡ line ∷ lines_of after → length line + length after ≤ length rest → length after < length rest
    → is_passed_over line ≡ false → row_judged bits (number + 1) place line ≡ Ok (row_in step bytes) → 2 * count_added step.edit ≤ length line
    → steps' ≡ steps ++ step ∷ [] → added' ≡ added ++ take (count_added step.edit) bytes → length added' ≡ length added + count_added step.edit → end ≡ end_of (row_in step bytes)
    → IsReading bits (number + 1) end steps' added' after text
reads_row bits number place end steps steps' added added' step bytes line rest after text h lines lens shorter kept judged long stepped adds more ends =
    let row = row_in step bytes in
    let front = rows_in steps added in
    let rows : rows_in steps' added' ≡ front ++ row ∷ [] = ap (λ s. rows_in s added') stepped ∙ ap (rows_in (steps ++ step ∷ [])) adds ∙ rows_push steps added step bytes h.whole in
    record {
      whole = ap steps_add stepped ∙ (let e : steps_add (steps ++ step ∷ []) ≡ length added' = omega (arith, steps_push steps step, h.whole, more) in e);
      same = ap (λ r. with_front r (rows_judged bits ((number + 1) + 1) end (lines_of after))) rows
          ∙ ap (λ e. with_front (front ++ row ∷ []) (rows_judged bits ((number + 1) + 1) e (lines_of after))) ends
          ∙ row_read bits (number + 1) place line (lines_of after) front row kept judged
          ∙ ap (λ ls. with_front front (rows_judged bits (number + 1) place ls)) (sym lines) ∙ h.same;
      bytes = omega (arith, h.bytes, lens, long, more);
      lines = omega (arith, h.lines, shorter);
    }
