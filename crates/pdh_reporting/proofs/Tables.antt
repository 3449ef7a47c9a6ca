-- What is told of nodes, one after the other.
use Rattle.std.proofs.Common.{List, [], ◌∷◌, ◌++◌}
use Rattle.pdh_health.specs.declared.node_health.NodeHealth.{NodeHealth}
use Rattle.pdh_report.specs.declared.node_report.NodeReport.{NodeReport}
use Rattle.pdh_reporting.specs.Reports.{Tells, AreTold}

pub told_more : (healths : List NodeHealth) (reports : List NodeReport) (health : NodeHealth) (report : NodeReport) → AreTold healths reports → Tells health report
    → AreTold (healths ++ health ∷ []) (reports ++ report ∷ [])
told_more [] [] health report told more = (more, tt)
told_more [] (x ∷ reports) health report told more = absurd told
told_more (x ∷ healths) [] health report told more = absurd told
told_more (x ∷ healths) (y ∷ reports) health report told more = (told.0, told_more healths reports health report told.1 more)
