-- What was found of a line's only node.
use Rattle.std.proofs.Common.{◌≡◌, ℕ, ◌<◌, List, [], ◌∷◌, get_or, length, sym, subst, arith}
use Rattle.pdh_placed.specs.declared.placed.Placed.{Placed}
use Rattle.pdh_health.specs.declared.plan.NodePlan.{NodePlan}
use Rattle.pdh_health.specs.declared.node_health.NodeHealth.{NodeHealth}
use Rattle.pdh_health.specs.declared.node_health.NodeNumbers.{NodeNumbers}
use Rattle.pdh_health.specs.Nodes.{IsFoundOf}
use Rattle.pdh_health.specs.Lines.{own_events, numbers_at, AreFoundOf}

pub some : (rate bits : ℕ) (plan : NodePlan) (numbers : List NodeNumbers) (events : List Placed) (nodes : List NodeHealth)
    → AreFoundOf rate bits (plan ∷ []) numbers events nodes → 0 < length nodes
some rate bits plan numbers events [] each = absurd each
some rate bits plan numbers events (x ∷ xs) each = omega arith

pub first : (rate bits : ℕ) (plan : NodePlan) (numbers : List NodeNumbers) (events : List Placed) (nodes : List NodeHealth) (node : NodeHealth)
    → AreFoundOf rate bits (plan ∷ []) numbers events nodes → node ≡ get_or nodes 0 node → IsFoundOf rate bits plan (numbers_at numbers plan.path) (own_events plan events) node
first rate bits plan numbers events [] node each is = absurd each
first rate bits plan numbers events (x ∷ xs) node each is =
    subst (λ (n : NodeHealth). IsFoundOf rate bits plan (numbers_at numbers plan.path) (own_events plan events) n) (sym is) each.0
