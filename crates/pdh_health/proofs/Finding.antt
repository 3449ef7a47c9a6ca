-- What was found of one node after another.
use Rattle.std.proofs.Common.{ℕ, ◌<◌, ◌^◌, List, [], ◌∷◌, ◌++◌, length, subst}
use Rattle.pdh_placed.specs.declared.placed.Placed.{Placed}
use Rattle.pdh_health.specs.declared.plan.NodePlan.{NodePlan}
use Rattle.pdh_health.specs.declared.node.Node.{Node}
use Rattle.pdh_health.specs.declared.node_health.NodeHealth.{NodeHealth}
use Rattle.pdh_health.specs.declared.node_health.NodeNumbers.{NodeNumbers}
use Rattle.pdh_health.specs.Nodes.{last_place, IsFoundOf, StandsFor}
use Rattle.pdh_health.specs.Lines.{own_events, AreInOrder, NodesStandFor, numbers_at, AreFoundOf}
use Rattle.pdh_health.proofs.Pushing.{own_within, own_few}

-- this was found of a node
abbrev pub Found : ℕ → List NodeNumbers → Node → NodeHealth → Type 0
Found bits numbers node found =
    (rate : ℕ) (plan : NodePlan) (events : List Placed) → StandsFor node rate plan events → last_place events < bits → length events < 2 ^ 63
    → IsFoundOf rate bits plan (numbers_at numbers node.plan.path) events found

-- and of each of these
abbrev pub FoundEach : ℕ → List NodeNumbers → List Node → List NodeHealth → Type 0
FoundEach bits numbers [] [] = Unit {0}
FoundEach bits numbers (node ∷ nodes) (found ∷ others) = Found bits numbers node found × FoundEach bits numbers nodes others
FoundEach bits numbers _ _ = ⊥

pub one_more_found : (bits : ℕ) (numbers : List NodeNumbers) (nodes : List Node) (all : List NodeHealth) (node : Node) (found : NodeHealth) → FoundEach bits numbers nodes all → Found bits numbers node found
    → FoundEach bits numbers (nodes ++ node ∷ []) (all ++ found ∷ [])
one_more_found bits numbers [] [] node found each one = (one, tt)
one_more_found bits numbers [] (x ∷ xs) node found each one = absurd each
one_more_found bits numbers (n ∷ nodes) [] node found each one = absurd each
one_more_found bits numbers (n ∷ nodes) (x ∷ xs) node found each one = (each.0, one_more_found bits numbers nodes xs node found each.1 one)

pub all_found : (rate bits : ℕ) (numbers : List NodeNumbers) (nodes : List Node) (all : List NodeHealth) (plans : List NodePlan) (events : List Placed) → FoundEach bits numbers nodes all
    → NodesStandFor nodes rate plans events → AreInOrder events → last_place events < bits → AreFoundOf rate bits plans numbers events all
all_found rate bits numbers [] [] [] events each stand order less = tt
all_found rate bits numbers [] [] (plan ∷ plans) events each stand order less = absurd stand
all_found rate bits numbers [] (x ∷ xs) plans events each stand order less = absurd each
all_found rate bits numbers (node ∷ nodes) [] plans events each stand order less = absurd each
all_found rate bits numbers (node ∷ nodes) (x ∷ xs) [] events each stand order less = absurd stand
all_found rate bits numbers (node ∷ nodes) (x ∷ xs) (plan ∷ plans) events each stand order less =
    let own = each.0 rate plan (own_events plan events) stand.0 (own_within plan events bits order less) (own_few plan events order) in (
      subst (λ (p : NodePlan). IsFoundOf rate bits plan (numbers_at numbers p.path) (own_events plan events) x) stand.0.plan_is own,
      all_found rate bits numbers nodes xs plans events each.1 stand.1 order less,
    )

-- the nodes of a line at which nothing has come
pub one_more_opened : (rate : ℕ) (nodes : List Node) (plans : List NodePlan) (node : Node) (plan : NodePlan) → NodesStandFor nodes rate plans [] → StandsFor node rate plan []
    → NodesStandFor (nodes ++ node ∷ []) rate (plans ++ plan ∷ []) []
one_more_opened rate [] [] node plan stand one = (one, tt)
one_more_opened rate [] (p ∷ plans) node plan stand one = absurd stand
one_more_opened rate (n ∷ nodes) [] node plan stand one = absurd stand
one_more_opened rate (n ∷ nodes) (p ∷ plans) node plan stand one = (stand.0, one_more_opened rate nodes plans node plan stand.1 one)
