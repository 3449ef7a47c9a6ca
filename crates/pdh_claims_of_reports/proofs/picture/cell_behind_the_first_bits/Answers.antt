use Rattle.std.proofs.Common.{◌≡◌, ℕ, ◌+◌, ◌-◌, ◌*◌, ◌/◌, ◌^◌, min, ap, ◌∙◌, arith}
use Rattle.std.proofs.Math.Nat.{zero-div}
use Rattle.pdh_picture.specs.Cells.{fine_cells}
use Rattle.pdh_claims_of_reports.proofs.picture.cell_behind_the_first_bits.Goals as goal

pub returns : goal.returns
returns c =
    let shift = c.args.grid.now.shift in
    let fine = fine_cells c.args.grid.now.bits shift in
    let least : min (0 / 2 ^ shift) (fine - 1) ≡ 0 = omega (arith, zero-div (2 ^ shift)) in
    c.cells_of_first.ensures.cells ∙ ap (λ (n : ℕ). n + 1) (ap (λ (n : ℕ). n * 430 / fine) least ∙ zero-div fine)
