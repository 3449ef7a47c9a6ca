-- How wide the fine cells of short lines are, and what is drawn of them.
use Rattle.std.proofs.Common.{◌≡◌, ℕ, zero, suc, ◌<◌, ◌≤◌, List, get_or, ap, ◌∙◌, arith, lit≤}
use Rattle.pdh_cells.specs.declared.cell.Cell.{Cell}
use Rattle.pdh_cells.specs.Lanes.{Lanes}
use Rattle.pdh_cells.specs.Contents.{blank}
use Rattle.pdh_cells.specs.Pictures.{IsShift, ArePicture, drawn, fine_cells}

-- of a line of 4,096 bits or fewer each has one
one_bit : (bits shift : ℕ) → bits ≤ 4096 → IsShift bits shift → shift ≡ 0
one_bit bits shift few is = omega (arith, is.least 0 few)

pub in_one_bit : (bits : ℕ) (lanes : Lanes) (cells : List Cell) (cell : ℕ) → bits ≤ 4096 → cell < 430 → ArePicture bits lanes cells
    → get_or cells cell blank ≡ drawn 0 (fine_cells 0 bits) lanes cell
in_one_bit bits lanes cells cell few small picture =
    picture.are_drawn cell small ∙ ap (λ s. drawn s (fine_cells s bits) lanes cell) (one_bit bits picture.shift few picture.is_shift)

-- where they must hold one bit more, each has two
two_bits : (shift : ℕ) → IsShift 4097 shift → shift ≡ 1
two_bits zero is = absurd (omega (arith, is.enough))
two_bits (suc n) is = omega (arith, is.least 1 (lit≤ tt))

pub in_two_bits : (lanes : Lanes) (cells : List Cell) (cell : ℕ) → cell < 430 → ArePicture 4097 lanes cells
    → get_or cells cell blank ≡ drawn 1 (fine_cells 1 4097) lanes cell
in_two_bits lanes cells cell small picture =
    picture.are_drawn cell small ∙ ap (λ s. drawn s (fine_cells s 4097) lanes cell) (two_bits picture.shift picture.is_shift)
