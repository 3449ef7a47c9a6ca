use Rattle.std.proofs.Common.{[], take}
use Rattle.pdh_health.specs.Lines.{NodesStandFor}
use Rattle.pdh_health.proofs.health.Health.open.Given as goal

-- the first nodes are opened
abbrev pub invariant-loop-plan : goal.invariant-loop-plan
invariant-loop-plan l = record { opened : NodesStandFor l.nodes.items l.rate (take l.plan-index l.plans) [] }
