-- The rows of a script as they are stored: what they add stands apart, in the order of the rows.
use Rattle.std.specs.Prelude.{◌≡◌, ℕ, ◌+◌, ◌≤◌, Bool, true, false, not, List, [], ◌∷◌, map, length, take, drop, Option, Some, None}
use Rattle.pdh_script.specs.declared.row.FoundChange.{FoundChange}
use Rattle.pdh_script.specs.declared.row.FoundRow.{FoundRow}
use Rattle.pdh_script.specs.declared.step.Effect.{Effect}
use Rattle.pdh_script.specs.declared.step.Effect.TheVariants as effects
use Rattle.pdh_script.specs.declared.step.Edit.{Edit}
use Rattle.pdh_script.specs.declared.step.Edit.TheVariants as edits
use Rattle.pdh_script.specs.declared.step.Step.{Step}
use Rattle.pdh_script.specs.Scripts.{Change, Flip, Ones, Zeros, Drop, Add, Row}

-- the change of so many bits
abbrev pub change_by : Effect → ℕ → Change
change_by effects.Flip n = Flip n
change_by effects.Ones n = Ones n
change_by effects.Zeros n = Zeros n
change_by effects.Drop n = Drop n

-- what becomes of bits, where they have an effect
abbrev pub becomes : Option Effect → List Bool → List Bool
becomes None bits = bits
becomes (Some effects.Flip) bits = map not bits
becomes (Some effects.Ones) bits = map (λ bit. true) bits
becomes (Some effects.Zeros) bits = map (λ bit. false) bits
becomes (Some effects.Drop) bits = []

-- the change, where these bytes are the next ones
abbrev pub change_in : Edit → List ℕ → Change
change_in (edits.Alter effect bits) bytes = change_by effect bits
change_in (edits.Add count) bytes = Add (take count bytes)

-- the most bytes that a row adds, and those that all rows of a text add
abbrev pub most_row_bytes : ℕ
most_row_bytes = 64

abbrev pub most_added_bytes : ℕ
most_added_bytes = 524288

-- how many bytes are added
abbrev pub count_added : Edit → ℕ
count_added (edits.Alter effect bits) = 0
count_added (edits.Add count) = count

-- how many bits of the line are left out
abbrev pub count_dropped : Edit → ℕ
count_dropped (edits.Alter effects.Drop bits) = bits
count_dropped (edits.Alter effect bits) = 0
count_dropped (edits.Add count) = 0

abbrev pub row_in : Step → List ℕ → Row
row_in step bytes = record { at = step.at; change = change_in step.edit bytes }

-- the rows of steps that add these bytes
abbrev pub rows_in : List Step → List ℕ → List Row
rows_in [] bytes = []
rows_in (step ∷ steps) bytes = row_in step bytes ∷ rows_in steps (drop (count_added step.edit) bytes)

abbrev pub steps_add : List Step → ℕ
steps_add [] = 0
steps_add (step ∷ steps) = count_added step.edit + steps_add steps

-- steps with the bytes that they add, which are no more than a text can write
pub record AreSteps (steps : List Step) (bytes : List ℕ) : Type 0 where
  pub whole : steps_add steps ≡ length bytes
  pub few : length bytes ≤ most_added_bytes

-- what a parser of a line found
abbrev pub change_found : FoundChange → Change
change_found found = change_in found.edit found.bytes

abbrev pub row_found : FoundRow → Row
row_found found = row_in found.step found.bytes
