use Rattle.std.proofs.Common.{arith}
use Rattle.pdh_making.proofs.DrillComes.{drill_refused, drill_done}
use Rattle.pdh_making.proofs.drilling.drill.Goals as goal

pub returns-then-frames-gt-MOST_DRILLED : goal.returns-then-frames-gt-MOST_DRILLED
returns-then-frames-gt-MOST_DRILLED c state = drill_refused c.args.chain c.args.seed c.args.frames state (omega arith)

pub returns : goal.returns
returns c state = rw c.says.ensures (drill_done c.args.chain c.args.seed c.args.frames _ state (omega arith) c.in_ok-report.ensures.report)
