-- The order of a chain's steps, as an order of lists of numbers. Each event has such a list: the top's bit; then for each
-- step from a node down to its child a mark, the child's number from 1, and the child's bit, where the mark is 0 where that
-- bit is one of the lead and else 1; last the mark 1 and, for an overflow, the number of its tributary from 1, or, for an
-- underflow, the number of the node's tributaries and one more.
use Rattle.std.specs.Prelude.{◌≡◌, ℕ, suc, ◌*◌, ◌/◌, ◌%◌, Bool, true, false, IsTrue, nat_lt, ◌==◌, if◌then◌else◌, List, [], ◌∷◌, ◌++◌, map, flat_map, slice_get, Some}
use Rattle.std.specs.List.{range_with_len}
use Rattle.pdh_shape.specs.Frame.{FrameShape}
use Rattle.pdh_shape.specs.OwnNumbers.{lead}
use Rattle.pdh_line.specs.Sending.{Mode, arrives_at, came_before}
use Rattle.pdh_line.specs.Nodes.{child, Counts}
use Rattle.pdh_line.specs.Sending.Mode.{Plain}
use Rattle.pdh_line.specs.Events.{Event, overflow_at, underflow_at}
use Rattle.pdh_nesting.specs.Chains.{top_len}
use Rattle.pdh_nesting.specs.Events.{events_without_stores}

-- Lists are compared number by number. Where one is the beginning of the other, the longer one comes first: a bit is made
-- before it overflows the store that it goes into.
abbrev pub comes_before : List ℕ → List ℕ → Bool
comes_before [] others = false
comes_before (a ∷ rest) [] = true
comes_before (a ∷ rest) (b ∷ others) = (if a == b then comes_before rest others else nat_lt a b)

-- an event and its list, or the part of it from some node down
abbrev pub Keyed : Type 0
Keyed = List ℕ × Event

-- these events with one list
abbrev pub at_key : List ℕ → List Event → List Keyed
at_key key events = map (λ event. (key, event)) events

-- with these numbers before the list of each
abbrev pub below_key : List ℕ → List Keyed → List Keyed
below_key numbers events = map (λ event. (numbers ++ event.0, event.1)) events

-- Those in making bit x of the line of the node at a path that has stores, each with the part of its list below that bit, by
-- those after a mark in making each bit of a tributary.
abbrev pub keyed_with_stores : Mode → FrameShape → Counts → List ℕ → (ℕ → ℕ → ℕ → List Keyed) → ℕ → List Keyed
keyed_with_stores mode s counts path made x =
    let n = x / s.len in
    let t = x % s.len in
    let tributaries = range_with_len 0 s.tribs in
    (if x == 0 then flat_map (λ j. flat_map (made 0 j) (range_with_len 0 lead)) tributaries else [])
    ++ flat_map (λ j. (if arrives_at s (counts path j n) t then made 1 j (came_before s (counts path j) n t) else []) ++ at_key (1 ∷ suc j ∷ []) (overflow_at mode s path j (counts path j) n t)) tributaries
    ++ flat_map (λ j. at_key (1 ∷ suc s.tribs ∷ []) (underflow_at mode s path j (counts path j) n t)) tributaries

-- all events in making bit x of the line of the node at a path, in order, each with that part of its list; a bit that a node
-- without stores reads has the mark of one that arrives
unfoldable pub keyed_in : Mode → List FrameShape → Counts → List ℕ → ℕ → List Keyed
keyed_in mode [] counts path x = []
keyed_in mode (s ∷ below) counts path x =
    let made = λ (mark j k : ℕ). below_key (mark ∷ suc j ∷ k ∷ []) (keyed_in mode below counts (child path j) k) in
    (if s.copies == 0 then events_without_stores s (made 1) x else keyed_with_stores mode s counts path made x)

-- all events in making the first x bits of the top's line, in order, each with its list
unfoldable pub keyed_below : Mode → List FrameShape → Counts → ℕ → List Keyed
keyed_below mode chain counts x = flat_map (λ bit. below_key (bit ∷ []) (keyed_in mode chain counts [] bit)) (range_with_len 0 x)

-- all events of plain mode in so many frames of the top, each with its list
abbrev pub keyed_events : List FrameShape → Counts → ℕ → List Keyed
keyed_events chain counts frames = keyed_below Plain chain counts (frames * top_len chain)

-- an event's list comes before another's
abbrev pub Before : Keyed → Keyed → Type 0
Before a b = IsTrue (comes_before a.0 b.0)

-- one of these events comes before all others
pub record IsLeast (events : List Keyed) (least : Keyed) : Type 0 where
  -- it is one of them,
  pub place : ℕ
  pub among : slice_get events place ≡ Some least
  -- and no event's list comes before its own
  pub first : (k : ℕ) (other : Keyed) → slice_get events k ≡ Some other → comes_before other.0 least.0 ≡ false
