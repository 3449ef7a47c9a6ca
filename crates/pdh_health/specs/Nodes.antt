-- What is kept of a node, and what is found of it.
use Rattle.std.specs.Prelude.{◌≡◌, ℕ, ◌-◌, max, Bool, true, false, not, nat_le, ◌&&◌, if◌then◌else◌, Option, Some, None, is_some, List, map, fold, take}
use Rattle.std.specs.List.{find}
use Rattle.pdh_watch.specs.declared.kind.Kind.{Kind}
use Rattle.pdh_watch.specs.declared.kind.TheConstants.Kind.{ALIGNED, LOST}
use Rattle.pdh_event_counts.specs.Counting.{is_kind, counted, counts_of}
use Rattle.pdh_placed.specs.declared.placed.Placed.{Placed}
use Rattle.pdh_health.specs.declared.plan.NodePlan.{NodePlan}
use Rattle.pdh_health.specs.declared.node_health.NodeHealth.{NodeHealth}
use Rattle.pdh_health.specs.declared.node_health.NodeNumbers.{NodeNumbers}
use Rattle.pdh_health.specs.declared.node.Node.{Node}
use Rattle.pdh_health.specs.Plans.{latest_start, shortest_line}
use Rattle.pdh_health.specs.Kept.{kept_codes}
use Rattle.pdh_health.specs.Marking.{marks_of, codes_of}
use Rattle.pdh_health.specs.Courses.{StandsFor as CourseStandsFor}
use Rattle.pdh_health.specs.Findings.{IsFound}

abbrev pub kinds_of : List Placed → List Kind
kinds_of events = map (λ placed. placed.event.kind) events

-- the place of the last event
abbrev pub last_place : List Placed → ℕ
last_place events = fold (λ place placed. placed.place) 0 events

abbrev pub is_alignment : Placed → Bool
is_alignment placed = is_kind ALIGNED placed.event.kind

abbrev pub first_alignment : List Placed → Option Placed
first_alignment events = find is_alignment events

-- A node is late, so that it was out of alignment from the beginning, where its first alignment comes so late that the
-- recording didn't just begin in mid frame, or where it is never aligned though so many bits came.
abbrev pub is_late_by : NodePlan → ℕ → Option Placed → Bool
is_late_by plan bits None = nat_le (shortest_line plan.framing) bits
is_late_by plan bits (Some first) = nat_le (latest_start plan.framing) first.event.bit

abbrev pub is_late : NodePlan → ℕ → List Placed → Bool
is_late plan bits events = is_late_by plan bits (first_alignment events)

-- what is kept stands for the events of a node
pub record StandsFor (node : Node) (rate : ℕ) (plan : NodePlan) (events : List Placed) : Type 0 where
  pub plan_is : node.plan ≡ plan
  pub counts_are : node.counts ≡ counts_of (kinds_of events)
  pub first_is : node.first ≡ first_alignment events
  pub codes_are : kept_codes node.codes ≡ take 3 (codes_of events)
  pub early_stands : CourseStandsFor node.early rate plan.block (marks_of false events) (codes_of events) (last_place events)
  pub late_stands : CourseStandsFor node.late rate plan.block (marks_of true events) (codes_of events) (last_place events)

-- how many bits show a node as not yet aligned: those before its first alignment, one at least, where it wasn't out of alignment
abbrev pub early_bits_by : Bool → Option Placed → ℕ
early_bits_by late None = 0
early_bits_by late (Some first) = (if late then 0 else max first.place 1)

-- what was found by the events of a node and by what its receiver counted, on a line of so many bits
pub record IsFoundOf (rate bits : ℕ) (plan : NodePlan) (numbers : NodeNumbers) (events : List Placed) (found : NodeHealth) : Type 0 where
  pub path_is : found.path ≡ plan.path
  pub frames_are : found.frames ≡ numbers.frames
  pub bad_are : found.bad ≡ (numbers.judged - numbers.right) - counted LOST (kinds_of events)
  pub counts_are : found.counts ≡ counts_of (kinds_of events)
  pub codes_are : kept_codes found.codes ≡ take 3 (codes_of events)
  pub aligned_is : found.aligned ≡ is_some (first_alignment events)
  pub too_short_is : found.too_short ≡ (not (is_some (first_alignment events)) && not (is_late plan numbers.bits events))
  pub early_is : found.early_bits ≡ early_bits_by (is_late plan numbers.bits events) (first_alignment events)
  pub course_is : IsFound rate plan.block bits (marks_of (is_late plan numbers.bits events) events) (codes_of events) found.course
