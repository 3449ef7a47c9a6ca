use Rattle.std.proofs.Common.{ap, lit<, lit≤}
use Rattle.pdh_cells.specs.declared.cell.Cell.{Cell}
use Rattle.pdh_claims_of_health.proofs.Pictures.{in_one_bit}
use Rattle.pdh_claims_of_health.proofs.cells.last_fine_cell_left_out.Goals as goal

pub returns : goal.returns
returns c =
    let came = c.errored.ensures _ _ c.in_ok-cells.ensures (lit≤ tt) in
    ap (λ (x : Cell). x.near) (in_one_bit 1 _ _ 0 (lit≤ tt) (lit< tt) (c.draw.ensures _ _ came (lit≤ tt)))
