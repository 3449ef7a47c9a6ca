-- A multiplexer with a store for each child.
use Rattle.std.specs.Prelude.{◌≡◌, ℕ, suc, ◌+◌, ◌/◌, ◌%◌, ◌≤◌, Bool, true, false, not, ◌&&◌, ◌==◌, nat_le, nat_lt, List, [], ◌∷◌, ◌++◌, All, length, map, flat_map, count_by, slice_get, Option, Some, None, if◌then◌else◌}
use Rattle.std.specs.List.{range_with_len, slice_index_or}
use Rattle.pdh_edge.specs.Leaves.{any_below, NoneShared}
use Rattle.pdh_edge.specs.Ports.{Inputs, Takes}
use Rattle.pdh_shape.specs.declared.place.Path.{Path}
use Rattle.pdh_shape.specs.declared.place.Place.{Place}
use Rattle.pdh_shape.specs.declared.place.Level.{Level}
use Rattle.pdh_shape.specs.declared.role.Service.{Service}
use Rattle.pdh_shape.specs.declared.role.Role.{Role}
use Rattle.pdh_shape.specs.declared.role.Role.TheVariants.{Align, Service as ServiceSlot, Control, Just, Info}
use Rattle.pdh_shape.specs.Frame.{FrameShape, idle}
use Rattle.pdh_shape.specs.Tributary.{reads_below}
use Rattle.pdh_shape.specs.OwnNumbers.{lead}
use Rattle.pdh_line.specs.Sending.{Mode, arrives_at, came_before, taken, shape_numbers, carriage, Source, payload_bit, line_bit}
use Rattle.pdh_line.specs.Events.{overflows, underflows}
use Rattle.pdh_slips.specs.declared.slip.Slip.{Slip}
use Rattle.pdh_tx.specs.declared.tx.TxStop.{TxStop}
use Rattle.pdh_tx.specs.declared.tx.TxStop.TheVariants.{Overflow, Underflow, NoFrame}
use Rattle.pdh_tx.specs.declared.tributary.FrameShare.{FrameShare}
use Rattle.pdh_tx.specs.Meaning.{Plan, Supply, NodeFrame, IsNodeOf, Meaning, Agrees, Met, IsUsedUp}
use Rattle.pdh_tx.specs.Held.{first_some, some_if, stops, slip_if, gone_with, put_with}
use Rattle.pdh_tx.specs.Slipping.{slips_over, slips_under}

-- ---- the line of a node

-- what the children's lines are made of: the same schedule and lists, and idle service bits
abbrev pub below : Supply → Supply
below supply = record { plan = supply.plan; lists = supply.lists; says = λ n. idle }

-- the line of a child, where there is one
abbrev pub line_of : Option Meaning → Supply → ℕ → Bool
line_of None supply x = true
line_of (Some m) supply x = m.line supply x

-- what decides the line of the node at a path that has these children
abbrev pub source_of : Path → List Meaning → Supply → Source
source_of path ms supply = record { mode = supply.plan.mode; counts = supply.plan.counts path; inputs = λ j. line_of (slice_get ms j) (below supply); says = supply.says }

-- ---- what a node takes

-- whether a leaf is below one of them
abbrev pub any_leaf : List Meaning → ℕ → Bool
any_leaf = any_below (λ (m : Meaning). m.leaves)

-- how many bits of leaf k are taken, where each child j has made so many bits of its line
abbrev pub given_by : List Meaning → Plan → (ℕ → ℕ) → ℕ → ℕ
given_by [] plan made k = 0
given_by (m ∷ ms) plan made k = (if m.leaves k then m.given plan (made 0) k else given_by ms plan (λ j. made (suc j)) k)

-- no leaf is below two children
abbrev pub IsDisjoint : List Meaning → Type 0
IsDisjoint = NoneShared (λ (m : Meaning). m.leaves)

-- ---- what may stand in the way of a node's bit

abbrev pub obstacle_of : Option Meaning → Plan → (ℕ → ℕ) → ℕ → Option TxStop
obstacle_of None plan size x = None
obstacle_of (Some m) plan size x = m.obstacle plan size x

-- the place of tributary j, which a place numbers from 1, in slot t of frame n
abbrev pub place_at : Path → ℕ → ℕ → ℕ → Place
place_at path j n t = record { path = path; trib = j + 1; frame = n; slot = t }

-- the lead of tributary j
abbrev pub lead_at : Plan → List Meaning → (ℕ → ℕ) → ℕ → List (Option TxStop)
lead_at plan ms size j = map (obstacle_of (slice_get ms j) plan size) (range_with_len 0 lead)

-- all leads, by tributary
abbrev pub leads : FrameShape → Plan → List Meaning → (ℕ → ℕ) → List (Option TxStop)
leads s plan ms size = flat_map (lead_at plan ms size) (range_with_len 0 s.tribs)

-- the beginning of a frame, in slot 0: it isn't scheduled; then, in frame 0, the leads
abbrev pub beginning : FrameShape → Path → Plan → List Meaning → (ℕ → ℕ) → ℕ → ℕ → List (Option TxStop)
beginning s path plan ms size n t =
    (if t == 0 then some_if (nat_le (plan.frames path) n) (NoFrame path) ∷ (if n == 0 then leads s plan ms size else []) else [])

-- the arrival of a bit of tributary j in slot t of frame n, if there is one: what stands in the way of the child's bit, then
-- in plain mode a full store
abbrev pub arrival_at : FrameShape → Path → Plan → List Meaning → (ℕ → ℕ) → ℕ → ℕ → ℕ → List (Option TxStop)
arrival_at s path plan ms size n t j =
    (if arrives_at s (plan.counts path j n) t
    then obstacle_of (slice_get ms j) plan size (came_before s (plan.counts path j) n t) ∷ some_if (stops plan.mode (overflows s j (plan.counts path j) n t)) (Overflow (place_at path j n t)) ∷ []
    else [])

-- all arrivals of a slot, by tributary
abbrev pub arrivals : FrameShape → Path → Plan → List Meaning → (ℕ → ℕ) → ℕ → ℕ → List (Option TxStop)
arrivals s path plan ms size n t = flat_map (arrival_at s path plan ms size n t) (range_with_len 0 s.tribs)

-- the read of a slot, after its arrivals: in plain mode an empty store
abbrev pub reads : FrameShape → Path → Plan → ℕ → ℕ → List (Option TxStop)
reads s path plan n t = map (λ j. some_if (stops plan.mode (underflows s j (plan.counts path j) n t)) (Underflow (place_at path j n t))) (range_with_len 0 s.tribs)

-- all of slot t of frame n, in order
abbrev pub steps : FrameShape → Path → Plan → List Meaning → (ℕ → ℕ) → ℕ → ℕ → List (Option TxStop)
steps s path plan ms size n t = beginning s path plan ms size n t ++ (arrivals s path plan ms size n t ++ reads s path plan n t)

-- the first thing in the way of bit x, in step order
abbrev pub node_obstacle : FrameShape → Path → List Meaning → Plan → (ℕ → ℕ) → ℕ → Option TxStop
node_obstacle s path ms plan size x =
    first_some (steps s path plan ms size (x / s.len) (x % s.len))

-- ---- the slips in making a node's bit

-- those in making a child's bit, where there is one
abbrev pub slips_below : Option Meaning → Plan → ℕ → List Slip
slips_below None plan x = []
slips_below (Some m) plan x = m.slips plan x

-- those in the lead of tributary j
abbrev pub lead_slips : Plan → List Meaning → ℕ → List Slip
lead_slips plan ms j = flat_map (slips_below (slice_get ms j) plan) (range_with_len 0 lead)

-- in all leads, by tributary
abbrev pub leads_slips : FrameShape → Plan → List Meaning → List Slip
leads_slips s plan ms = flat_map (lead_slips plan ms) (range_with_len 0 s.tribs)

-- in the beginning of a frame: in frame 0, those in the leads
abbrev pub beginning_slips : FrameShape → Plan → List Meaning → ℕ → ℕ → List Slip
beginning_slips s plan ms n t = (if t == 0 then (if n == 0 then leads_slips s plan ms else []) else [])

-- in the arrival of a bit of tributary j in slot t of frame n, if there is one: those in making the child's bit, then that of its
-- store
abbrev pub arrival_slips : FrameShape → Path → Plan → List Meaning → ℕ → ℕ → ℕ → List Slip
arrival_slips s path plan ms n t j =
    (if arrives_at s (plan.counts path j n) t
    then slips_below (slice_get ms j) plan (came_before s (plan.counts path j) n t) ++ slip_if (slips_over s path plan n t j) true (place_at path j n t)
    else [])

-- in all arrivals of a slot, by tributary
abbrev pub arrivals_slips : FrameShape → Path → Plan → List Meaning → ℕ → ℕ → List Slip
arrivals_slips s path plan ms n t = flat_map (arrival_slips s path plan ms n t) (range_with_len 0 s.tribs)

-- in the read of a slot
abbrev pub read_slips : FrameShape → Path → Plan → ℕ → ℕ → List Slip
read_slips s path plan n t = flat_map (λ j. slip_if (slips_under s path plan n t j) false (place_at path j n t)) (range_with_len 0 s.tribs)

-- all of slot t of frame n, in step order
abbrev pub slot_slips : FrameShape → Path → Plan → List Meaning → ℕ → ℕ → List Slip
slot_slips s path plan ms n t = beginning_slips s plan ms n t ++ (arrivals_slips s path plan ms n t ++ read_slips s path plan n t)

-- all of bit x
abbrev pub node_slips : FrameShape → Path → List Meaning → Plan → ℕ → List Slip
node_slips s path ms plan x = slot_slips s path plan ms (x / s.len) (x % s.len)

-- ---- a node as a whole

abbrev pub node_frame : FrameShape → Path → NodeFrame
node_frame s path = record { path = path; numbers = shape_numbers s }

-- a node at a path that has these children, where `came` tells how many bits of tributary j it has taken by the time when x
-- bits of its line are made, `first` what stands first in the way of bit x, and `slips` the slips in making it
abbrev pub meaning_with : FrameShape → Path → List Meaning → (Plan → ℕ → ℕ → ℕ) → (Plan → (ℕ → ℕ) → ℕ → Option TxStop) → (Plan → ℕ → List Slip) → Meaning
meaning_with s path ms came first slips = record {
  nodes = node_frame s path ∷ flat_map (λ m. m.nodes) ms;
  leaves = any_leaf ms;
  line = λ supply x. line_bit s (source_of path ms supply) x;
  given = λ plan x k. given_by ms plan (λ j. came plan j x) k;
  begins = λ x. (if x % s.len == 0 then Some (x / s.len) else None);
  obstacle = first;
  slips = slips;
}

-- with a store for each child
abbrev pub node_meaning : FrameShape → Path → List Meaning → Meaning
node_meaning s path ms = meaning_with s path ms (λ plan j x. taken s (plan.counts path j) x) (node_obstacle s path ms) (node_slips s path ms)

-- the store of tributary j, which has these counts, holds so many bits where x bits of a line with frames of so many are made: what
-- was put into it less what is gone
abbrev pub IsFill : Mode → FrameShape → ℕ → (ℕ → ℕ) → ℕ → ℕ → ℕ → Type 0
IsFill mode s len counts j x fill =
    (let c = carriage mode s j counts in let n = x / len in let t = x % len in gone_with (c.edits n t) (c.sent n + reads_below s j (c.more n) t) + fill ≡ put_with (c.edits n t) (taken s counts x))

-- ---- the state of a node's tributaries

-- each tributary has made so many bits, and this was read of each
abbrev pub EachPlaced : {W R : Type 0} → (W → Plan → ℕ → R → Type 0) → List W → Plan → (ℕ → ℕ) → (ℕ → R) → Type 0
EachPlaced {W} {R} placed ws plan made read = (j : ℕ) (w : W) → slice_get ws j ≡ Some w → placed w plan (made j) (read j)

-- and what it holds is what this supply gives
abbrev pub EachHeld : {W R : Type 0} → (W → Supply → ℕ → R → Type 0) → List W → Supply → (ℕ → ℕ) → (ℕ → R) → Type 0
EachHeld {W} {R} held ws supply made read = (j : ℕ) (w : W) → slice_get ws j ≡ Some w → held w supply (made j) (read j)

-- the nodes of each are nodes of a chain with these levels
abbrev pub EachInChain : List Level → List Meaning → Type 0
EachInChain levels ms = (j : ℕ) (m : Meaning) → slice_get ms j ≡ Some m → All (IsNodeOf levels) m.nodes

-- how many bits have come of tributary j by slot t of frame n, where the first i tributaries have taken what arrives in it
abbrev pub came_to : FrameShape → Path → Plan → ℕ → ℕ → ℕ → ℕ → ℕ
came_to s path plan n t i j = (if nat_lt j i then came_before s (plan.counts path j) n (suc t) else came_before s (plan.counts path j) n t)

-- how many bits of tributary j have come by slot t of frame n
abbrev pub came_at : FrameShape → Path → Plan → ℕ → ℕ → ℕ → ℕ
came_at s path plan n t j = came_before s (plan.counts path j) n t

-- how many bits of tributary j a node has taken that has made all bits before slot t of frame n: none before its first bit
abbrev pub taken_to : FrameShape → Path → Plan → ℕ → ℕ → ℕ → ℕ
taken_to s path plan n t j = (if (n == 0) && (t == 0) then 0 else came_before s (plan.counts path j) n t)

-- the leads, where the first i tributaries have taken theirs
abbrev pub led_to : ℕ → ℕ → ℕ
led_to i j = (if nat_lt j i then lead else 0)

-- one of these values is another
abbrev pub set_at : {X : Type 0} → (ℕ → X) → ℕ → X → ℕ → X
set_at made t x j = (if j == t then x else made j)

-- what frame n brings and carries of tributary j, which has these counts
pub record IsShare (mode : Mode) (s : FrameShape) (j : ℕ) (counts : ℕ → ℕ) (n : ℕ) (share : FrameShare) : Type 0 where
  pub arriving : share.arriving ≡ counts n
  pub fits : counts n ≤ s.len
  pub more : share.more ≡ (carriage mode s j counts).more n

-- the decisions of frame n are made
abbrev pub IsDecided : {W : Type 0} → (W → FrameShare) → FrameShape → Path → Plan → ℕ → List W → Type 0
IsDecided {W} share s path plan n ws = (j : ℕ) (w : W) → slice_get ws j ≡ Some w → IsShare plan.mode s j (plan.counts path j) n (share w)

-- ---- steps of a node

-- the lists hold so many bits in all
abbrev pub AllFit : List Meaning → Plan → (ℕ → ℕ) → Inputs → (ℕ → ℕ) → Type 0
AllFit ms plan made inputs size = (k : ℕ) → any_leaf ms k ≡ true → size k ≡ given_by ms plan made k + inputs.left k

-- some tributaries took more bits of their children; `read` and `left` tell what was read of each before and after
pub record Moves {W R : Type 0} (held : W → Supply → ℕ → R → Type 0) (ms : List Meaning) (plan : Plan) (old new : List W) (made more : ℕ → ℕ) (read left : ℕ → R) (before after : Inputs) : Type 0 where
  pub given : ℕ → List Bool
  pub takes : Takes given before after
  pub others : (k : ℕ) → any_leaf ms k ≡ false → given k ≡ []
  pub exact : (k : ℕ) → any_leaf ms k ≡ true → given_by ms plan made k + length (given k) ≡ given_by ms plan more k
  pub onward : (supply : Supply) → supply.plan ≡ plan → EachHeld held old supply made read → Agrees (any_leaf ms) supply.lists (given_by ms plan made) given → EachHeld held new supply more left

-- they stopped on the way to so many bits
pub record Stays (ms : List Meaning) (plan : Plan) (made most : ℕ → ℕ) (stop : TxStop) (before after : Inputs) : Type 0 where
  pub given : ℕ → List Bool
  pub takes : Takes given before after
  pub others : (k : ℕ) → any_leaf ms k ≡ false → given k ≡ []
  pub no_more : (k : ℕ) → any_leaf ms k ≡ true → given_by ms plan made k + length (given k) ≤ given_by ms plan most k
  pub used_up : IsUsedUp stop after

-- the tributaries went through all these steps, in whose way nothing stood
pub record Advance {W R : Type 0} (placed : W → Plan → ℕ → R → Type 0) (held : W → Supply → ℕ → R → Type 0) (ms : List Meaning) (plan : Plan) (old new : List W) (made more : ℕ → ℕ) (read left : ℕ → R)
    (steps : (ℕ → ℕ) → List (Option TxStop)) (before after : Inputs) : Type 0 where
  pub place : EachPlaced placed new plan more left
  pub moves : Moves held ms plan old new made more read left before after
  pub free : (size : ℕ → ℕ) → AllFit ms plan made before size → first_some (steps size) ≡ None

-- they stopped at the first of these steps in whose way something stood
pub record Blocked (ms : List Meaning) (plan : Plan) (made most : ℕ → ℕ) (steps : (ℕ → ℕ) → List (Option TxStop)) (stop : TxStop) (before after : Inputs) (faults now : ℕ) : Type 0 where
  pub stays : Stays ms plan made most stop before after
  pub met : Met (AllFit ms plan made before) (λ size. first_some (steps size)) stop faults now

-- ---- the bit of a slot

-- whether the frame carries an additional bit of tributary j, by what it carries of each
abbrev pub carries_more : List FrameShare → ℕ → Bool
carries_more shares j = (slice_index_or shares j (record { arriving = 0; more = false })).more

-- the tributary whose bit a slot of this role carries, by what the frame carries of each
abbrev pub carried_by : List FrameShare → Role → Option ℕ
carried_by shares (Info j) = Some j
carried_by shares (Just j) = (if carries_more shares j then Some j else None)
carried_by shares _ = None

-- the bit of a slot that carries no tributary's
abbrev pub overhead_bit : FrameShape → Service → Bool → List FrameShare → Role → Bool
overhead_bit s say odd shares (Align signal) = signal
overhead_bit s say odd shares (ServiceSlot number) = s.service number say odd
overhead_bit s say odd shares (Control j copy) = not (carries_more shares j)
overhead_bit s say odd shares _ = true

-- the information and justifiable slots of frame n below slot t hold an odd number of ones
abbrev pub odd_within : FrameShape → Source → ℕ → ℕ → Bool
odd_within s source n t = count_by (λ t. payload_bit s source n t (s.role t)) (range_with_len 0 t) % 2 == 1
