use Rattle.std.proofs.Common.{ap, lit<, lit≤}
use Rattle.pdh_cells.specs.declared.cell.Cell.{Cell}
use Rattle.pdh_claims_of_health.proofs.Pictures.{in_two_bits}
use Rattle.pdh_claims_of_health.proofs.cells.neighbours_overlap.Goals as goal

pub returns : goal.returns
returns c =
    let came = c.errored.ensures _ _ c.in_ok-cells.ensures (lit≤ tt) in
    ap (λ (x : Cell). x.near) (in_two_bits _ _ 0 (lit< tt) (c.draw.ensures _ _ came (lit≤ tt)))
