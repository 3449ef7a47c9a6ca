-- What becomes of the next bits of a line, by the first of the rows that are left.
use Rattle.std.proofs.Common.{◌≡◌, ℕ, ◌+◌, ◌<◌, ◌≤◌, Bool, List, [], ◌∷◌, length, drop, sym, ap, subst, ◌∙◌, arith}
use Rattle.pdh_script.specs.Scripts.{Row, bits_changed, end_of}
use Rattle.pdh_script.specs.Stored.{change_in, count_added, row_in, rows_in}
use Rattle.pdh_script.specs.declared.step.Edit.TheVariants as edits
use Rattle.pdh_script.specs.declared.step.Step.{Step}
use Rattle.pdh_script.specs.Bending.{becomes_at, all_brought}
use Rattle.pdh_script.specs.RowsLeft.{Remain, IsAhead}
use Rattle.pdh_script.proofs.Brought.{brought_before, brought_within, covered, within, none_changed}

-- there is none
pub alike_none : (steps : List Step) (added : List ℕ) (place : ℕ) (rows : List Row) (bits : List Bool) → rows_in steps added ≡ rows → length steps ≡ 0 → all_brought place rows bits ≡ becomes_at place rows bits
alike_none [] added place rows bits seen none =
    subst (λ (r : List Row). all_brought place r bits ≡ becomes_at place r bits) seen (brought_before place (place + length bits) [] bits tt (omega arith))
alike_none (step ∷ steps) added place rows bits seen none = absurd (let P : ⊥ = omega (arith, none) in P)

module _ (place : ℕ) (rows : List Row) (steps rest : List Step) (step : Step) (added : List ℕ) (seen : rows_in steps added ≡ rows) (are : steps ≡ step ∷ rest) where
  abbrev later : List Row
  later = rows_in rest (drop (count_added step.edit) added)

  rows_are : row_in step added ∷ later ≡ rows
  rows_are = ap (λ s. rows_in s added) (sym are) ∙ seen

  first_remains : Remain place rows → Remain place (row_in step added ∷ later)
  first_remains left = subst (Remain place) (sym rows_are) left

  pub first_ends : IsAhead place rows → place < end_of (row_in step added)
  first_ends ahead = subst (IsAhead place) (sym rows_are) ahead

  -- it begins behind the next bit
  pub unchanged : Remain place rows → place < step.at → (bits : List Bool) → bits ≡ becomes_at place rows bits
  unchanged left before bits =
      subst (λ (r : List Row). bits ≡ becomes_at place r bits) rows_are (sym (none_changed (row_in step added ∷ later) step.at place bits (omega arith, (first_remains left).1) before))

  -- it adds bits, behind the next bit
  pub unchanged_by_bytes : (count : ℕ) → step.edit ≡ edits.Add count → IsAhead place rows → Remain place rows → (bits : List Bool) → bits ≡ becomes_at place rows bits
  unchanged_by_bytes count is ahead left bits =
      let none : bits_changed (change_in step.edit added) ≡ 0 = ap (λ e. bits_changed (change_in e added)) is in
      unchanged left (omega (arith, first_ends ahead, none)) bits

  -- it begins behind all next bits
  pub alike_before : Remain place rows → (bits : List Bool) → place < step.at → place + length bits ≤ step.at → all_brought place rows bits ≡ becomes_at place rows bits
  alike_before left bits before upto =
      subst (λ (r : List Row). all_brought place r bits ≡ bits) rows_are (brought_before place step.at (row_in step added ∷ later) bits (omega arith, (first_remains left).1) upto) ∙ unchanged left before bits

  -- it changes all next bits
  pub alike_within : Remain place rows → (bits : List Bool) → step.at ≤ place → place < end_of (row_in step added) → place + length bits ≤ end_of (row_in step added) → all_brought place rows bits ≡ becomes_at place rows bits
  alike_within left bits from ahead upto =
      subst (λ (r : List Row). all_brought place r bits ≡ becomes_at place r bits) rows_are
      (brought_within place (row_in step added) later bits (first_remains left).1 (omega (arith, from, ahead)) from upto ∙ sym (covered (row_in step added) later place bits (within (row_in step added) place from ahead)))
