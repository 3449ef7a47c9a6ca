use Rattle.std.proofs.Common.{◌≡◌, length}
use Rattle.pdh_cells.proofs.Drawing.{AreDrawn}
use Rattle.pdh_cells.proofs.cells.Cells.draw.Given as goal

-- the picture of the first fine cells
abbrev pub invariant-loop-fine : goal.invariant-loop-fine
invariant-loop-fine l = record { drawn : AreDrawn l.self.cells.items l.count l.fine l.drawn; len : length l.drawn ≡ 430 }
