use Rattle.std.proofs.Common.{◌≡◌, List, get_or, ap, ◌∙◌, refl, replicate}
use Rattle.pdh_cells.specs.declared.cell.Cell.{Cell}
use Rattle.pdh_cells.specs.Contents.{blank}
use Rattle.pdh_cells.proofs.Keeping.{get_blank, new_stands}
use Rattle.pdh_cells.proofs.cells.Cells.open.Goals as goal

pub invariant_of-result-clause-unused : goal.invariant_of-result-clause-unused
invariant_of-result-clause-unused c cell le =
    let all : c.in_ok-cells.cells.items ≡ replicate 4096 blank = c.in_ok-cells.ensures.items_if_clones_equal (λ y e. e) ∙ ap (λ (cell : Cell). replicate 4096 cell) c.blank.ensures in
    ap (λ (l : List Cell). get_or l cell blank) all ∙ get_blank 4096 cell

pub returns : goal.returns
returns c = new_stands _ refl (c.in_ok-cells.ensures.items_if_clones_equal (λ y e. e) ∙ ap (λ (cell : Cell). replicate 4096 cell) c.blank.ensures)
