-- Overflows and underflows of the elastic stores of a chain, in the order in which the chain meets them: in plain mode the first
-- of them ends its line, and in the other mode each of them is a slip. The order of the steps in making a line bit is this
-- project's own.
use Rattle.std.specs.Prelude.{◌≡◌, ◌<◌, ℕ, ◌+◌, ◌*◌, ◌/◌, ◌%◌, false, ◌==◌, if◌then◌else◌, List, [], ◌∷◌, ◌++◌, flat_map, Option, slice_get}
use Rattle.std.specs.List.{range_with_len}
use Rattle.pdh_shape.specs.Frame.{FrameShape}
use Rattle.pdh_shape.specs.Tributary.{reads_from, reads_below}
use Rattle.pdh_shape.specs.OwnNumbers.{lead}
use Rattle.pdh_line.specs.Sending.{HasStores, Mode, arrives_at, came_before, given}
use Rattle.pdh_line.specs.Nodes.{child, Counts}
use Rattle.pdh_line.specs.Sending.Mode.{Plain}
use Rattle.pdh_line.specs.Events.{Event, underflows, overflow_at, underflow_at}
use Rattle.pdh_nesting.specs.Chains.{top_len}

-- Those in making bit x of the line of the node at a path that has stores, by those in making each bit of a tributary: first
-- those of the leads, which are taken before the first bit, by tributary; then for each tributary those in making the bit that
-- arrives, and its overflow; then the underflow of the read.
abbrev pub events_with_stores : Mode → FrameShape → Counts → List ℕ → (ℕ → ℕ → List Event) → ℕ → List Event
events_with_stores mode s counts path made x =
    let n = x / s.len in
    let t = x % s.len in
    let tributaries = range_with_len 0 s.tribs in
    (if x == 0 then flat_map (λ j. flat_map (made j) (range_with_len 0 lead)) tributaries else [])
    ++ flat_map (λ j. (if arrives_at s (counts path j n) t then made j (came_before s (counts path j) n t) else []) ++ overflow_at mode s path j (counts path j) n t) tributaries
    ++ flat_map (λ j. underflow_at mode s path j (counts path j) n t) tributaries

-- The same of a node without stores, which has no events of its own: those in making the bit that its slot reads, of the
-- tributary that it reads.
abbrev pub events_without_stores : {X : Type 0} → FrameShape → (ℕ → ℕ → List X) → ℕ → List X
events_without_stores s made x =
    let n = x / s.len in
    let t = x % s.len in
    flat_map (λ j. (if reads_from j false (s.role t) then made j (n * s.low + reads_below s j false t) else [])) (range_with_len 0 s.tribs)

-- all events in making bit x of the line of the node at a path, in order
unfoldable pub events_in : Mode → List FrameShape → Counts → List ℕ → ℕ → List Event
events_in mode [] counts path x = []
events_in mode (s ∷ below) counts path x =
    let made = λ (j k : ℕ). events_in mode below counts (child path j) k in
    (if s.copies == 0 then events_without_stores s made x else events_with_stores mode s counts path made x)

-- all events in making the first x bits of the top's line, in order
unfoldable pub events_below : Mode → List FrameShape → Counts → ℕ → List Event
events_below mode chain counts x = flat_map (events_in mode chain counts []) (range_with_len 0 x)

-- the first event of plain mode in so many frames of the top, if there is one
abbrev pub first_event : List FrameShape → Counts → ℕ → Option Event
first_event chain counts frames = slice_get (events_below Plain chain counts (frames * top_len chain)) 0

-- no store of the node at a path, or of a node below it, underflows in making the first x bits of the node's line
unfoldable pub NoneEmpty : List FrameShape → Counts → List ℕ → ℕ → Type 0
NoneEmpty [] counts path x = Unit {0}
NoneEmpty (s ∷ below) counts path x =
    (j : ℕ) → j < s.tribs → (HasStores s → (n t : ℕ) → t < s.len → n * s.len + t < x → underflows s j (counts path j) n t ≡ false) × NoneEmpty below counts (child path j) (given s j (counts path j) x)
