-- What is kept of a line's nodes, and what is found of them.
use Rattle.std.specs.Prelude.{◌≡◌, ℕ, ◌-◌, ◌^◌, ◌<◌, ◌≤◌, min, Bool, not, ◌==◌, ◌&&◌, if◌then◌else◌, Option, Some, None, List, [], ◌∷◌, filter, fold, length, ◌++◌}
use Rattle.std.specs.List.{find}
use Rattle.std.specs.Option.{unwrap_or}
use Rattle.pdh_shape.specs.declared.place.Path.{Path}
use Rattle.pdh_placed.specs.declared.placed.Placed.{Placed}
use Rattle.pdh_health.specs.declared.plan.NodePlan.{NodePlan}
use Rattle.pdh_health.specs.declared.node_health.NodeHealth.{NodeHealth}
use Rattle.pdh_health.specs.declared.node_health.NodeNumbers.{NodeNumbers}
use Rattle.pdh_health.specs.declared.node_health.LineHealth.{LineHealth}
use Rattle.pdh_health.specs.declared.node.Node.{Node}
use Rattle.pdh_health.specs.declared.health.Health.{Health}
use Rattle.pdh_health.specs.Nodes.{is_alignment, IsFoundOf, StandsFor as NodeStandsFor}

abbrev pub is_path : Path → Path → Bool
is_path a b = (a.depth == b.depth && a.first == b.first) && a.second == b.second

-- the events of a node
abbrev pub own_events : NodePlan → List Placed → List Placed
own_events plan events = filter (λ placed. is_path plan.path placed.event.path) events

-- no event comes before a place, or before the one ahead of it
abbrev pub RiseFrom : ℕ → List Placed → Type 0
RiseFrom place [] = Unit {0}
RiseFrom place (placed ∷ later) = (place ≤ placed.place) × RiseFrom placed.place later

-- events come in the order of their places, and aren't too many to count
pub record AreInOrder (events : List Placed) : Type 0 where
  pub rise : RiseFrom 0 events
  pub few : length events < 2 ^ 63

abbrev pub is_trouble : Placed → Bool
is_trouble placed = not (is_alignment placed)

abbrev pub last_trouble : List Placed → Option Placed
last_trouble events = fold (λ last placed. if is_trouble placed then Some placed else last) None events

-- each node stands for the events of its plan
abbrev pub NodesStandFor : List Node → ℕ → List NodePlan → List Placed → Type 0
NodesStandFor [] rate [] events = Unit {0}
NodesStandFor (node ∷ nodes) rate (plan ∷ plans) events = NodeStandsFor node rate plan (own_events plan events) × NodesStandFor nodes rate plans events
NodesStandFor _ rate _ events = ⊥

-- what is kept stands for the events that came, on a line with so many bits in a second
pub record StandsFor (health : Health) (rate : ℕ) (plans : List NodePlan) (events : List Placed) : Type 0 where
  pub nodes_stand : NodesStandFor health.nodes.items rate plans events
  pub events_are : health.events ≡ min (length events) (2 ^ 64 - 1)
  pub first_is : health.first ≡ find is_trouble events
  pub last_is : health.last ≡ last_trouble events

-- where these events come in order behind others, what stood for the others stands for all
abbrev pub Saw : Health → List Placed → Health → Type 0
Saw a events b = (rate : ℕ) (plans : List NodePlan) (past : List Placed) → AreInOrder (past ++ events) → StandsFor a rate plans past → StandsFor b rate plans (past ++ events)

-- what the receiver of a node counted; nothing, where it isn't among these
abbrev pub numbers_at : List NodeNumbers → Path → NodeNumbers
numbers_at all path = unwrap_or (find (λ numbers. is_path path numbers.path) all) (record { path = path; bits = 0; frames = 0; judged = 0; right = 0 })

-- this was found of each node
abbrev pub AreFoundOf : ℕ → ℕ → List NodePlan → List NodeNumbers → List Placed → List NodeHealth → Type 0
AreFoundOf rate bits [] numbers events [] = Unit {0}
AreFoundOf rate bits (plan ∷ plans) numbers events (health ∷ healths) =
    IsFoundOf rate bits plan (numbers_at numbers plan.path) (own_events plan events) health × AreFoundOf rate bits plans numbers events healths
AreFoundOf rate bits _ numbers events _ = ⊥

-- what was found by the events of a line of so many bits and by what its receivers counted
pub record IsFoundOfLine (rate bits : ℕ) (plans : List NodePlan) (numbers : List NodeNumbers) (events : List Placed) (found : LineHealth) : Type 0 where
  pub events_are : found.events ≡ min (length events) (2 ^ 64 - 1)
  pub first_is : found.first ≡ find is_trouble events
  pub last_is : found.last ≡ last_trouble events
  pub nodes_are : AreFoundOf rate bits plans numbers events found.nodes.items
