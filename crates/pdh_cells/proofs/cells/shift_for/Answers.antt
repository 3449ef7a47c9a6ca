use Rattle.std.proofs.Common.{◌≤◌, suc, arith}
use Rattle.pdh_cells.proofs.Fine.{needs_more, is_small, is_enough}
use Rattle.pdh_cells.proofs.cells.shift_for.Goals as goal

pub loop-shift-init : goal.loop-shift-init
loop-shift-init c = record { least = λ other enough. omega arith; small = omega arith }

pub loop-shift-preserved : goal.loop-shift-preserved
loop-shift-preserved c =
    let small : suc c.loop-shift.shift ≤ 52 = is_small c.loop-shift.shift c.args.last (omega (arith, c.ranges.last)) c.loop-shift-test.true in
    record {
      least = λ other enough. let more : suc c.loop-shift.shift ≤ other = needs_more c.loop-shift.shift other c.args.last c.loop-shift-test.true enough in omega (arith, more);
      small = omega (arith, small);
    }

pub loop-shift-smaller : goal.loop-shift-smaller
loop-shift-smaller c =
    let small : suc c.loop-shift.shift ≤ 52 = is_small c.loop-shift.shift c.args.last (omega (arith, c.ranges.last)) c.loop-shift-test.true in omega (arith, small)

pub returns-clause-shift : goal.returns-clause-shift
returns-clause-shift c = record {
  enough = let all = is_enough c.loop-shift.shift c.args.last c.loop-shift-test.false in omega (arith, all);
  least = λ other enough. c.loop-shift.invariant.least other (omega (arith, enough));
}
