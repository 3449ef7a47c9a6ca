use Rattle.std.proofs.Common.{arith}
use Rattle.pdh_picture.proofs.Cells.{is_shift}
use Rattle.pdh_picture.specs.Cells.{IsShift}
use Rattle.pdh_picture.proofs.grid.shift_of.Goals as goal

pub returns-clause-shift : goal.returns-clause-shift
returns-clause-shift c =
    is_shift c.args.bits c.next_power_of_two.result c.ilog2.result c.next_power_of_two.ensures.power (omega arith) (omega arith)
    c.ilog2.ensures.power_le c.ilog2.ensures.next_power_gt

pub returns-clause-small : goal.returns-clause-small
returns-clause-small c =
    let is : IsShift c.args.bits c.ilog2.result = returns-clause-shift c in omega (arith, is.least 52 (omega arith))
