use Rattle.std.proofs.Common.{◌+◌, ◌<◌, arith, length-drop}
use Rattle.pdh_picture.proofs.Leading.{some_leading}
use Rattle.pdh_picture.proofs.runs.next_run.Goals as goal

pub returns-clause-order : goal.returns-clause-order
returns-clause-order c =
    let some : 0 < c.leading-2.result = rw c.leading-2.ensures.exact (some_leading c.args.classes.now (c.args.from + c.leading.result) (omega arith)) in
    (omega arith, omega arith, omega (arith, c.leading-2.ensures.within, length-drop (c.args.from + c.leading.result) c.args.classes.now))
