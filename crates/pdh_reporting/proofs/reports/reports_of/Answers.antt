use Rattle.std.proofs.Common.{◌≡◌, ◌+◌, ◌<◌, List, [], ◌∷◌, ◌++◌, length, take, sym, ap, ◌∙◌, subst, arith}
use Rattle.std.proofs.lemmas.List.{take_more}
use Rattle.pdh_health.specs.declared.node_health.NodeHealth.{NodeHealth}
use Rattle.pdh_report.specs.declared.node_report.NodeReport.{NodeReport}
use Rattle.pdh_reporting.specs.Reports.{AreTold}
use Rattle.pdh_reporting.proofs.Tables.{told_more}
use Rattle.pdh_reporting.proofs.reports.reports_of.Goals as goal

pub loop-index-preserved : goal.loop-index-preserved
loop-index-preserved c =
    let nodes = c.args.nodes.now in
    let i = c.loop-index.index in
    let node = c.index-nodes-index.result in
    let lt : i < length nodes = omega arith in
    let next : take (i + 1) nodes ≡ take i nodes ++ node ∷ [] = take_more nodes i node lt ∙ ap (λ health. take i nodes ++ health ∷ []) (sym c.index-nodes-index.is) in
    let P : List NodeHealth → Type 0 = λ healths. AreTold healths c.push.new.self.items in
    let Q : List NodeReport → Type 0 = λ reports. AreTold (take i nodes ++ node ∷ []) reports in
    subst P (sym next)
    (subst Q (sym c.in_ok-push.ensures.items)
    (told_more (take i nodes) c.loop-index.reports.items node c.node_report.result c.loop-index.invariant c.node_report.ensures))
