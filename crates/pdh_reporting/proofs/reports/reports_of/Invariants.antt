-- the health of the nodes so far is told
use Rattle.std.proofs.Common.{take}
use Rattle.pdh_reporting.specs.Reports.{AreTold}
use Rattle.pdh_reporting.proofs.reports.reports_of.Given as goal

abbrev pub invariant-loop-index : goal.invariant-loop-index
invariant-loop-index l = AreTold (take l.index l.nodes) l.reports.items
