-- How many bits a disturbed line has.
use Rattle.std.proofs.Common.{◌≡◌, ℕ, ◌+◌, ◌-◌, ◌*◌, ◌<◌, ◌≤◌, Bool, true, false, not, List, [], ◌∷◌, ◌++◌, length, take, drop, slice_range, get_or, ap, sym, ◌∙◌, subst, arith}
use Rattle.std.proofs.lemmas.List.{length-append, length-map, length-take-le, length-drop, drop_more}
use Rattle.pdh_bits.proofs.BitsLemmas.{length-bits_of}
use Rattle.pdh_script.specs.Scripts.{FitFrom, FitIn, altered, bits_changed, end_of, disturbed, disturbed_from, Row, bytes_added}
use Rattle.pdh_script.specs.Stored.{change_in, count_added, count_dropped, row_in, rows_in, steps_add, AreSteps}
use Rattle.pdh_script.specs.declared.step.Effect.TheVariants as effects
use Rattle.pdh_script.specs.declared.step.Edit.{Edit}
use Rattle.pdh_script.specs.declared.step.Edit.TheVariants as edits
use Rattle.pdh_script.specs.declared.step.Step.{Step}
use Rattle.pdh_script.proofs.Rows.{adds}

-- ---- bits that are left out

-- how many bits of the line steps leave out
abbrev pub steps_drop : List Step → ℕ
steps_drop [] = 0
steps_drop (step ∷ steps) = count_dropped step.edit + steps_drop steps

-- no more than those that are changed
dropped_changed : (edit : Edit) (bytes : List ℕ) → count_dropped edit ≤ bits_changed (change_in edit bytes)
dropped_changed (edits.Alter effects.Flip n) bytes = omega arith
dropped_changed (edits.Alter effects.Ones n) bytes = omega arith
dropped_changed (edits.Alter effects.Zeros n) bytes = omega arith
dropped_changed (edits.Alter effects.Drop n) bytes = omega arith
dropped_changed (edits.Add count) bytes = omega arith

few_from : (steps : List Step) (place bits : ℕ) (bytes : List ℕ) → place ≤ bits → FitFrom place bits (rows_in steps bytes) → place + steps_drop steps ≤ bits
few_from [] place bits bytes within fits = omega arith
few_from (step ∷ steps) place bits bytes within fits =
    let later = few_from steps (end_of (row_in step bytes)) bits (drop (count_added step.edit) bytes) fits.1 fits.2 in
    omega (arith, later, fits.0, dropped_changed step.edit bytes)

-- no more than the line has
pub dropped_few : (steps : List Step) (bits : ℕ) (bytes : List ℕ) (rows : List Row) → rows_in steps bytes ≡ rows → FitIn bits rows → steps_drop steps ≤ bits
dropped_few steps bits bytes rows are fits =
    let stored : FitIn bits (rows_in steps bytes) = subst (FitIn bits) (sym are) fits in
    omega (arith, few_from steps 0 bits bytes (omega arith) stored)

-- those of one step more
pub drop_one : (steps : List Step) (i : ℕ) (d : Step) → i < length steps → steps_drop (drop i steps) ≡ count_dropped (get_or steps i d).edit + steps_drop (drop (i + 1) steps)
drop_one steps i d h = ap steps_drop (drop_more steps i d h)

-- ---- the bits that are left, and those that are added

part_long : (line : List Bool) (a b : ℕ) → a ≤ b → b ≤ length line → length (slice_range line a b) ≡ b - a
part_long line a b ordered within = length-take-le (b - a) (drop a line) (omega (arith, length-drop a line))

-- what becomes of a part
altered_long : (edit : Edit) (bytes : List ℕ) (part : List Bool) → count_added edit ≤ length bytes → length part ≡ bits_changed (change_in edit bytes)
    → length (altered (change_in edit bytes) part) + count_dropped edit ≡ bits_changed (change_in edit bytes) + 8 * count_added edit
altered_long (edits.Alter effects.Flip n) bytes part enough long = omega (arith, length-map part not, long)
altered_long (edits.Alter effects.Ones n) bytes part enough long = omega (arith, length-map part (λ (bit : Bool). true), long)
altered_long (edits.Alter effects.Zeros n) bytes part enough long = omega (arith, length-map part (λ (bit : Bool). false), long)
altered_long (edits.Alter effects.Drop n) bytes part enough long = omega arith
altered_long (edits.Add count) bytes part enough long = omega (arith, length-bits_of (take count bytes), length-take-le count bytes enough)

long_from : (steps : List Step) (place bits : ℕ) (bytes : List ℕ) (line : List Bool) → length line ≡ bits → place ≤ bits → steps_add steps ≤ length bytes → FitFrom place bits (rows_in steps bytes)
    → place + length (disturbed_from place line (rows_in steps bytes)) + steps_drop steps ≡ bits + 8 * steps_add steps
long_from [] place bits bytes line long within enough fits = omega (arith, length-drop place line, long, within)
long_from (step ∷ steps) place bits bytes line long within enough fits =
    let edit = step.edit in
    let n = count_added edit in
    let change = change_in edit bytes in
    let end = end_of (row_in step bytes) in
    let before = slice_range line place step.at in
    let part = slice_range line step.at end in
    let rest = disturbed_from end line (rows_in steps (drop n bytes)) in
    let joined : length (before ++ altered change part ++ rest) ≡ length (before ++ altered change part) + length rest = length-append (before ++ altered change part) rest in
    let joined' : length (before ++ altered change part) ≡ length before + length (altered change part) = length-append before (altered change part) in
    let before_long : length before ≡ step.at - place = part_long line place step.at fits.0 (omega (arith, fits.1, long)) in
    let part_is : length part ≡ end - step.at = part_long line step.at end (omega arith) (omega (arith, fits.1, long)) in
    let part_changed : length part ≡ bits_changed change = omega (arith, part_is) in
    let here = altered_long edit bytes part (omega (arith, enough)) part_changed in
    let later = long_from steps end bits (drop n bytes) line long fits.1 (omega (arith, enough, length-drop n bytes)) fits.2 in
    omega (arith, joined, joined', before_long, here, later, fits.0)

-- how many bits a line has once it is disturbed
pub disturbed_long : (steps : List Step) (bits dropped added : ℕ) (bytes : List ℕ) (rows : List Row) (line : List Bool) → rows_in steps bytes ≡ rows → AreSteps steps bytes → FitIn bits rows → dropped ≡ steps_drop steps → added ≡ bytes_added rows
    → length line ≡ bits → bits - dropped + 8 * added ≡ length (disturbed line rows)
disturbed_long steps bits dropped added bytes rows line are stored fits drops adding long =
    let fit : FitIn bits (rows_in steps bytes) = subst (FitIn bits) (sym are) fits in
    let enough : steps_add steps ≤ length bytes = omega (arith, stored.whole) in
    let count : added ≡ steps_add steps = adding ∙ ap bytes_added (sym are) ∙ adds steps bytes enough in
    let whole = long_from steps 0 bits bytes line long (omega arith) enough fit in
    let few = dropped_few steps bits bytes rows are fits in
    let is : bits - dropped + 8 * added ≡ length (disturbed line (rows_in steps bytes)) = omega (arith, whole, few, drops, count) in
    is ∙ ap (λ rows. length (disturbed line rows)) are
