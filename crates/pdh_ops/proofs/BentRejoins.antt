-- A disturbed line rejoins the line behind the last row of its script.
use Rattle.std.proofs.Common.{◌≡◌, ℕ, ◌+◌, ◌-◌, ◌*◌, ◌≤◌, nat_lt, Bool, true, false, cond, not, List, [], ◌∷◌, ◌++◌, Result, Ok, Err, length, take, drop, slice_range, refl, ap, sym, subst, ◌∙◌, inl, inr, arith, length-append, length-drop}
use Rattle.std.specs.Result.{result_unwrap_or}
use Rattle.std.proofs.lemmas.Bool.{cases_lt}
use Rattle.std.proofs.lemmas.List.{length-map, take_all, take-append-le, take-take, drop-append-le, drop_all, drop-drop, length-take-le}
use Rattle.pdh_bits.specs.Bits.{bits_of, bytes_of}
use Rattle.pdh_bits.proofs.BitsLemmas.{length-bits_of}
use Rattle.pdh_blocks.proofs.Appending.{whole}
use Rattle.pdh_script.specs.declared.fault.ScriptFault.{ScriptFault}
use Rattle.pdh_script.specs.declared.fault.ScriptFault.TheVariants.{TooLong}
use Rattle.pdh_script.specs.Scripts.{Change, Row, FitFrom, FitIn, end_of, bits_changed, altered, disturbed, disturbed_from}
use Rattle.pdh_script.specs.Scripts.Change.{Flip, Ones, Zeros, Drop, Add}
use Rattle.pdh_row_text.specs.Text.{lines_of}
use Rattle.pdh_script.specs.ScriptText.{most_script_bytes, script_of, rows_judged}
use Rattle.pdh_script.proofs.Growing.{judged_fits}
use Rattle.pdh_answers.specs.Answer.{script_or_stop}
use Rattle.pdh_answers.specs.Names.{line_name, script_name}
use Rattle.pdh_recovery.specs.Recovering.{RejoinsList}
use Rattle.pdh_runner.specs.Operation.{Files, bytes_in}
use Rattle.pdh_recorded.specs.Disturb.{script_rows, script_in, bent_bits, bent_bytes}
use Rattle.pdh_ops.specs.Rejoined.{bits_made, made_from, end_from}

-- the first bits of what rejoins a list rejoin it too
pub rejoins_part : (all part more sent : List Bool) (e u : ℕ) → part ++ more ≡ all → RejoinsList all sent e u → RejoinsList part sent e u
rejoins_part all part more sent e u is same =
    let long : length all ≡ length part + length more = sym (ap length is) ∙ length-append part more in
    let n : ℕ = length part - e in
    let fits : u + (length all - e) ≤ length sent = same.0 in
    elim (cases_lt (length part) e) [
      | inl past ↦
          let none : n ≡ 0 = omega arith in
          let room : u + n ≤ length sent = omega arith in
          (room, drop_all e part (omega arith) ∙ sym (ap (λ n. take n (drop u sent)) none))
      | inr within ↦ (
        omega arith,
        sym (take_all n (drop e part) (omega (arith, length-drop e part))) ∙ sym (take-append-le n (drop e part) more (omega (arith, length-drop e part)))
            ∙ ap (take n) (sym (drop-append-le e part more within) ∙ ap (drop e) is ∙ same.1) ∙ take-take n (length all - e) (drop u sent) (omega arith),
      )
    ]

-- ---- the bits behind the last row

drop_front : (xs ys : List Bool) (a m : ℕ) → length xs ≡ a → drop (a + m) (xs ++ ys) ≡ drop m ys
drop_front xs ys a m long =
    sym (drop-drop m a (xs ++ ys)) ∙ ap (drop m) (drop-append-le a xs ys (omega arith) ∙ ap (λ f. f ++ ys) (drop_all a xs (omega arith)))

part_long : (line : List Bool) (a b : ℕ) → a ≤ b → b ≤ length line → length (slice_range line a b) ≡ b - a
part_long line a b ordered within = length-take-le (b - a) (drop a line) (omega (arith, length-drop a line))

altered_long : (change : Change) (part : List Bool) → length part ≡ bits_changed change → length (altered change part) ≡ bits_made change
altered_long (Flip n) part long = length-map part not ∙ long
altered_long (Ones n) part long = length-map part (λ (bit : Bool). true) ∙ long
altered_long (Zeros n) part long = length-map part (λ (bit : Bool). false) ∙ long
altered_long (Drop n) part long = refl
altered_long (Add bytes) part long = length-bits_of bytes

behind_last : (rows : List Row) (place : ℕ) (line : List Bool) → place ≤ length line → FitFrom place (length line) rows
    → drop (made_from place rows) (disturbed_from place line rows) ≡ drop (end_from place rows) line
behind_last [] place line within fits = let at : place + 0 ≡ place = omega arith in drop-drop 0 place line ∙ ap (λ n. drop n line) at
behind_last (row ∷ rows) place line within fits =
    let end : ℕ = end_of row in
    let before : List Bool = slice_range line place row.at in
    let part : List Bool = slice_range line row.at end in
    let rest : List Bool = disturbed_from end line rows in
    let before_long : length before ≡ row.at - place = part_long line place row.at fits.0 (omega (arith, fits.1)) in
    let part_is : length part ≡ end - row.at = part_long line row.at end (omega arith) fits.1 in
    let changed : length part ≡ bits_changed row.change = omega (arith, part_is) in
    let made : length (altered row.change part) ≡ bits_made row.change = altered_long row.change part changed in
    let long : length (before ++ altered row.change part) ≡ (row.at - place) + bits_made row.change = length-append before (altered row.change part) ∙ omega arith in
    drop_front (before ++ altered row.change part) rest ((row.at - place) + bits_made row.change) (made_from end rows) long
    ∙ behind_last rows end line fits.1 fits.2

end_within : (rows : List Row) (place bits : ℕ) → place ≤ bits → FitFrom place bits rows → end_from place rows ≤ bits
end_within [] place bits within fits = within
end_within (row ∷ rows) place bits within fits = end_within rows (end_of row) bits fits.1 fits.2

rejoins_list : (line bent : List Bool) (e u : ℕ) → u ≤ length line → drop e bent ≡ drop u line → RejoinsList bent line e u
rejoins_list line bent e u within same =
    let long : length bent - e ≡ length line - u = sym (length-drop e bent) ∙ ap length same ∙ length-drop u line in
    let all : take (length bent - e) (drop u line) ≡ drop u line = take_all (length bent - e) (drop u line) (omega (arith, length-drop u line)) in
    (omega arith, same ∙ sym all)

-- ---- the script's rows fit the line

fits_of : (long : Bool) (fault : ScriptFault) (judged : Result (List Row) ScriptFault) (bits : ℕ) → ((rows : List Row) → judged ≡ Ok rows → FitIn bits rows)
    → FitIn bits (result_unwrap_or (script_or_stop (cond long (Err fault) judged)) [])
fits_of true fault judged bits fits = tt
fits_of false fault (Err other) bits fits = tt
fits_of false fault (Ok rows) bits fits = fits rows refl

script_fits : (files : Files) → FitIn (8 * length (bytes_in files line_name)) (script_in files)
unfolding script_rows script_of
script_fits files =
    let text : List ℕ = bytes_in files script_name in
    let bits : ℕ = 8 * length (bytes_in files line_name) in
    fits_of (nat_lt most_script_bytes (length text)) (TooLong (length text)) (rows_judged bits 1 0 (lines_of text)) bits (λ rows e. judged_fits (lines_of text) bits 1 0 rows e)

-- the disturbed line's whole bytes rejoin the line
pub bent_rejoins : (files : Files) → RejoinsList (bits_of (bent_bytes (bytes_in files line_name) (script_in files))) (bits_of (bytes_in files line_name)) (made_from 0 (script_in files)) (end_from 0 (script_in files))
unfolding bent_bits bent_bytes
bent_rejoins files =
    let line : List Bool = bits_of (bytes_in files line_name) in
    let rows : List Row = script_in files in
    let bent : List Bool = disturbed line rows in
    let long : 8 * length (bytes_in files line_name) ≡ length line = sym (length-bits_of (bytes_in files line_name)) in
    let fits : FitIn (length line) rows = subst (λ n. FitIn n rows) long (script_fits files) in
    let behind : drop (made_from 0 rows) bent ≡ drop (end_from 0 rows) line = behind_last rows 0 line (omega arith) fits in
    let all : RejoinsList bent line (made_from 0 rows) (end_from 0 rows) = rejoins_list line bent (made_from 0 rows) (end_from 0 rows) (end_within rows 0 (length line) (omega arith) fits) behind in
    rejoins_part bent (bits_of (bytes_of bent)) _ line (made_from 0 rows) (end_from 0 rows) (whole bent) all
