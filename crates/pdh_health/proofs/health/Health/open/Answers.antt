use Rattle.std.proofs.Common.{◌+◌, ◌++◌, ◌∷◌, [], List, take, sym, subst}
use Rattle.std.proofs.lemmas.List.{take_more}
use Rattle.pdh_health.specs.declared.plan.NodePlan.{NodePlan}
use Rattle.pdh_health.specs.declared.node.Node.{Node}
use Rattle.pdh_health.specs.Lines.{NodesStandFor}
use Rattle.pdh_health.proofs.Finding.{one_more_opened}
use Rattle.pdh_health.proofs.health.Health.open.Goals as goal

pub loop-plan-preserved : goal.loop-plan-preserved
loop-plan-preserved c =
    let rate = c.args.rate in
    let plans = c.args.plans.now in
    let index = c.loop-plan.plan-index in
    record {
      opened = subst (λ (l : List Node). NodesStandFor l rate (take (index + 1) plans) []) (sym c.in_ok-push.ensures.items)
          (subst (λ (l : List NodePlan). NodesStandFor (c.loop-plan.nodes.items ++ c.in_ok-node.node ∷ []) rate l []) (sym (take_more plans index _ c.loop-plan-test.true))
          (one_more_opened rate c.loop-plan.nodes.items (take index plans) c.in_ok-node.node _ c.loop-plan.invariant.opened c.in_ok-node.ensures));
    }
