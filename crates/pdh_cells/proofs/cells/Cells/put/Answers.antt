use Rattle.std.proofs.Common.{◌≡◌, ℕ, suc, ◌<◌, ◌≤◌, ◌⊎◌, ◌&&◌, Bool, inl, inr, sym, ap, ◌∙◌, arith}
use Rattle.std.specs.Prelude.{nat_le, if◌then◌else◌}
use Rattle.std.proofs.lemmas.Bool.{le-leb, lt-leb, cases_lt}
use Rattle.std.proofs.Math.Pow.{shr_mono}
use Rattle.pdh_cells.specs.declared.cell.Cell.{Cell}
use Rattle.pdh_cells.specs.Contents.{fine_cell}
use Rattle.pdh_cells.proofs.cells.Cells.put.Goals as goal

by_range : (a b cell : ℕ) (now more same : Cell) → (a ≤ cell → cell ≤ b → now ≡ more) → ((cell < a) ⊎ (suc b ≤ cell) → now ≡ same) → now ≡ (if nat_le a cell && nat_le cell b then more else same)
by_range a b cell now more same within without =
    elim (cases_lt cell a) [
      | inl before ↦ without (inl before) ∙ sym (ap (λ (t : Bool). if t && nat_le cell b then more else same) (lt-leb a cell before))
      | inr from ↦ elim (cases_lt b cell) [
        | inl behind ↦
            without (inr (omega (arith, behind))) ∙ sym (ap (λ (t : Bool). if t && nat_le cell b then more else same) (le-leb a cell from) ∙ ap (λ (t : Bool). if t then more else same) (lt-leb cell b behind))
        | inr up_to ↦
            within from up_to ∙ sym (ap (λ (t : Bool). if t && nat_le cell b then more else same) (le-leb a cell from) ∙ ap (λ (t : Bool). if t then more else same) (le-leb cell b up_to))
      ]
    ]

pub returns-clause-each : goal.returns-clause-each
returns-clause-each c = λ cell.
    let shift = c.args.self.now.shift in
    let order : fine_cell shift c.args.from ≤ fine_cell shift c.args.last = shr_mono shift c.requires.order in
    by_range (fine_cell shift c.args.from) (fine_cell shift c.args.last) cell _ _ _
    (λ from up_to. c.loop-index.invariant.done cell from (omega (arith, up_to, order)))
    (λ out. c.loop-index.invariant.same cell (elim out [ inl before ↦ inl before | inr behind ↦ inr (omega (arith, behind, order)) ]))
