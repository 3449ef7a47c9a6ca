use Rattle.std.proofs.Common.{◌≡◌}
use Rattle.pdh_lab.specs.Drill.{drill_upto}
use Rattle.pdh_lab.proofs.drilling.report.Given as goal

abbrev pub invariant-loop-leaf : goal.invariant-loop-leaf
invariant-loop-leaf l = l.drill ≡ drill_upto l.fn.chain l.fn.seed l.fn.frames l.leaf
