-- The rows of steps, as they are stored.
use Rattle.std.proofs.Common.{◌≡◌, ℕ, ◌≤◌, List, [], ◌∷◌, length, drop, refl, sym, ◌∙◌, arith}
use Rattle.std.proofs.lemmas.List.{length-take-le, length-drop}
use Rattle.pdh_script.specs.declared.step.Effect.{Effect}
use Rattle.pdh_script.specs.declared.step.Effect.TheVariants as effects
use Rattle.pdh_script.specs.declared.step.Edit.{Edit}
use Rattle.pdh_script.specs.declared.step.Edit.TheVariants as edits
use Rattle.pdh_script.specs.declared.step.Step.{Step}
use Rattle.pdh_script.specs.Scripts.{bytes_of, bytes_added}
use Rattle.pdh_script.specs.Stored.{change_by, change_in, count_added, rows_in, steps_add, AreSteps}

none_by : (effect : Effect) (n : ℕ) → length (bytes_of (change_by effect n)) ≡ 0
none_by effects.Flip n = refl
none_by effects.Ones n = refl
none_by effects.Zeros n = refl
none_by effects.Drop n = refl

edit_adds : (edit : Edit) (bytes : List ℕ) → count_added edit ≤ length bytes → length (bytes_of (change_in edit bytes)) ≡ count_added edit
edit_adds (edits.Alter effect bits) bytes h = none_by effect bits
edit_adds (edits.Add count) bytes h = length-take-le count bytes h

pub adds : (steps : List Step) (bytes : List ℕ) → steps_add steps ≤ length bytes → bytes_added (rows_in steps bytes) ≡ steps_add steps
adds [] bytes h = refl
adds (step ∷ steps) bytes h =
    let n = count_added step.edit in
    let here = edit_adds step.edit bytes (omega arith) in
    let later = adds steps (drop n bytes) (omega (arith, length-drop n bytes)) in
    omega (arith, here, later)

-- as many bytes are added as are stored
pub adds_all : (steps : List Step) (bytes : List ℕ) → AreSteps steps bytes → length bytes ≡ bytes_added (rows_in steps bytes)
adds_all steps bytes h = sym (adds steps bytes (omega (arith, h.whole)) ∙ h.whole)
