-- Many frames of children without stores at once: the bits that each made for all of these frames stand in a queue.
use Rattle.std.specs.Prelude.{◌≡◌, ℕ, suc, ◌+◌, ◌*◌, ◌<◌, ◌≤◌, ◌^◌, Bool, true, false, List, [], length, slice_get, Some}
use Rattle.std.specs.List.{slice_index_or, zip}
use Rattle.pdh_edge.specs.Ports.{Inputs}
use Rattle.pdh_shape.specs.declared.place.Path.{Path}
use Rattle.pdh_shape.specs.declared.shape.Shape as shape
use Rattle.pdh_shape.specs.Frame.{FrameShape, idle}
use Rattle.pdh_runs.specs.Pieces.{FillsColumn, rows}
use Rattle.pdh_tx.specs.declared.pieces.Piece.{Piece}
use Rattle.pdh_tx.specs.declared.queue.Queue.{Queue}
use Rattle.pdh_tx.specs.declared.tx.Tx.{Ghosts}
use Rattle.pdh_tx.specs.declared.tx.TxStop.TheVariants.{Failed}
use Rattle.pdh_tx.specs.Batches.{batch, MeetNothing}
use Rattle.pdh_tx.specs.Gathered.{waiting_in}
use Rattle.pdh_tx.specs.Held.{IsPart, Gains}
use Rattle.pdh_tx.specs.Making.{IsClear}
use Rattle.pdh_tx.specs.Meaning.{Plan, Supply, Meaning}
use Rattle.pdh_tx.specs.Node.{below, EachPlaced, Stays}
use Rattle.pdh_tx.specs.Passing.{up_to, carried_in, Passes}
use Rattle.pdh_tx.specs.Locked.{locked_to}
use Rattle.pdh_locked.specs.declared.children.Children.{Children}
use Rattle.pdh_locked.specs.declared.gathering.NextSlots.{NextSlots}
use Rattle.pdh_locked.specs.Children.{Stands, StandsFor, held_in, locked_kind, meanings, columns}

-- ---- one child

-- It has made `end` bits of its line, of which so many are read; the others stand in the queue.
pub record IsGathered {C : Type 0} (tx : Ghosts C) (child : C) (queue : Queue) (plan : Plan) (end read : ℕ) : Type 0 where
  pub runs : tx.is_stopped child ≡ false
  pub idles : tx.says child ≡ idle
  pub place : tx.stands_at child plan end
  pub within : queue.gone ≤ length queue.bits.bits
  pub rest : queue.gone + end ≡ length queue.bits.bits + read

-- and they are those of this supply
pub record HoldsGathered {C : Type 0} (tx : Ghosts C) (child : C) (queue : Queue) (supply : Supply) (end read : ℕ) : Type 0 where
  pub quiet : (n : ℕ) → supply.says n ≡ idle
  pub made_for : tx.stands_for child supply end
  pub holds : IsPart ((tx.meaning child).line supply) (waiting_in queue) read

-- its next bits, so many, stand in the queue
pub record GathersBits {C : Type 0} (tx : Ghosts C) (old new : C) (queue : Queue) (plan : Plan) (count made : ℕ) (before after : Inputs) : Type 0 where
  pub placed : IsGathered tx new queue plan (made + count) made
  pub gains : Gains (tx.meaning old) plan (held_in tx old) (λ supply end read. HoldsGathered tx new queue supply end read) made (made + count) made made before after

abbrev pub GathersAll : {C : Type 0} → Ghosts C → C → C → Queue → Plan → ℕ → Inputs → Inputs → Type 0
GathersAll tx old new queue plan count before after = (made : ℕ) → Stands tx old plan made → GathersBits tx old new queue plan count made before after

-- ---- on the way of gathering

-- how many bits of a child are read, and whether those behind them stand in the queue
pub record Progress : Type 0 where
  pub gathered : Bool
  pub read : ℕ

abbrev pub PlacedBy : {C : Type 0} → Ghosts C → Bool → C → Queue → Plan → ℕ → ℕ → Type 0
PlacedBy tx false child queue plan made read = Stands tx child plan made
PlacedBy tx true child queue plan made read = IsGathered tx child queue plan made read

abbrev pub HeldBy : {C : Type 0} → Ghosts C → Bool → C → Queue → Supply → ℕ → ℕ → Type 0
HeldBy tx false child queue supply made read = StandsFor tx child supply made
HeldBy tx true child queue supply made read = HoldsGathered tx child queue supply made read

abbrev pub placed_by : {C : Type 0} → Ghosts C → C × Queue → Plan → ℕ → Progress → Type 0
placed_by tx p plan made at = PlacedBy tx at.gathered p.0 p.1 plan made at.read

abbrev pub held_by : {C : Type 0} → Ghosts C → C × Queue → Supply → ℕ → Progress → Type 0
held_by tx p supply made at = HeldBy tx at.gathered p.0 p.1 supply made at.read

-- these are some slots of a multiplexer with such frames, and no more than those of so many frames
pub record AreNextSlots (s : FrameShape) (slots : NextSlots) : Type 0 where
  pub inside : slots.slot < s.len
  pub behind : slots.end < s.len
  pub longer : slots.slot < slots.frames * s.len + slots.end
  pub few : slots.frames * s.len + slots.end ≤ slots.slot + batch * s.len

-- how many bits of child j are read before the slots, and with them
abbrev pub read_before : FrameShape → NextSlots → ℕ → ℕ
read_before s slots = locked_to s slots.frame slots.slot

abbrev pub read_behind : FrameShape → NextSlots → ℕ → ℕ
read_behind s slots = locked_to s (slots.frame + slots.frames) slots.end

-- how many it has made, where the first i children have gathered theirs
abbrev pub gathered_made : FrameShape → NextSlots → ℕ → ℕ → ℕ
gathered_made s slots = up_to (read_before s slots) (read_behind s slots)

abbrev pub progress_at : FrameShape → NextSlots → Bool → ℕ → Progress
progress_at s slots gathered j = record { gathered = gathered; read = read_before s slots j }

abbrev pub gathered_progress : FrameShape → NextSlots → ℕ → ℕ → Progress
gathered_progress s slots = up_to (progress_at s slots false) (progress_at s slots true)

-- ---- a piece of a frame

-- the bits that a piece reads were carried, and stand in this column
pub record CarriesBits (s : FrameShape) (j first len : ℕ) (old new : Queue) (column : List Bool) : Type 0 where
  pub bits : new.bits ≡ old.bits
  pub gone : new.gone ≡ old.gone + carried_in s j false first len
  pub fills : FillsColumn s j false first len (waiting_in old) column
  pub rows : length column ≡ rows s first len

module _ {S C : Type 0} {shape : shape.Ghosts S} {tx : Ghosts C} where
  -- each with its queue
  abbrev pub pairs : Children S C shape tx → List (C × Queue)
  pairs cs = zip cs.list.items cs.queues.items

  -- the first i have gathered their bits
  abbrev pub HaveGathered : Children S C shape tx → Plan → NextSlots → ℕ → Type 0
  HaveGathered cs plan slots i = EachPlaced (placed_by tx) (pairs cs) plan (gathered_made shape.shape slots i) (gathered_progress shape.shape slots i)

  -- nothing stands in the way of the bits of child j
  abbrev pub CanGather : Children S C shape tx → Plan → NextSlots → Inputs → ℕ → Type 0
  CanGather cs plan slots inputs j = (m : Meaning) → slice_get (meanings cs) j ≡ Some m → IsClear m plan (read_before shape.shape slots j) (read_behind shape.shape slots j) inputs

  -- those from i up to k gathered theirs
  abbrev pub GatherOn : Children S C shape tx → Children S C shape tx → Plan → NextSlots → ℕ → ℕ → Inputs → Inputs → Type 0
  GatherOn old new plan slots i k before after =
      (path : Path) → Passes (held_by tx) path (meanings old) plan (pairs old) (pairs new) (gathered_made shape.shape slots i) (gathered_made shape.shape slots k)
      (gathered_progress shape.shape slots i) (gathered_progress shape.shape slots k) before after (λ source. Unit {0})

  -- child i gathered its bits
  pub record GatherOne (old new : Children S C shape tx) (plan : Plan) (slots : NextSlots) (i : ℕ) (before after : Inputs) : Type 0 where
    pub placed : HaveGathered new plan slots (suc i)
    pub gathers : GatherOn old new plan slots i (suc i) before after

  -- the first so many did, which are all of them
  pub record GatherAll (old new : Children S C shape tx) (plan : Plan) (slots : NextSlots) (count : ℕ) (before after : Inputs) : Type 0 where
    pub placed : HaveGathered new plan slots count
    pub gathers : GatherOn old new plan slots 0 count before after

  -- a call failed on the way of those from i on
  abbrev pub FailGathering : Children S C shape tx → Plan → NextSlots → ℕ → Inputs → Inputs → Type 0
  FailGathering cs plan slots i = Stays (meanings cs) plan (gathered_made shape.shape slots i) (read_behind shape.shape slots) Failed

  -- ---- where they stand then

  -- All bits before slot t of frame n are read of them, and they have made those that come before bit `end` of the line. Nothing stands
  -- in the way of the slots up to there.
  pub record Gathered (cs : Children S C shape tx) (path : Path) (plan : Plan) (n t end : ℕ) : Type 0 where
    pub made : (j : ℕ) (child : C) (queue : Queue) → slice_get cs.list.items j ≡ Some child → slice_get cs.queues.items j ≡ Some queue
        → IsGathered tx child queue plan ((locked_kind shape.shape).by path plan j end) (locked_to shape.shape n t j)
    pub scheduled : 0 < t → n < plan.frames path
    pub bounded : plan.frames path < 2 ^ 64
    pub upto : n * shape.shape.len + t ≤ end
    pub size : ℕ → ℕ
    pub slots : MeetNothing (locked_kind shape.shape) shape.shape (meanings cs) path plan size n t end

  -- and what they hold is what this supply gives
  abbrev pub HoldGathered : Children S C shape tx → Path → Plan → Supply → ℕ → ℕ → ℕ → Type 0
  HoldGathered cs path plan supply n t end =
      (j : ℕ) (child : C) (queue : Queue) → slice_get cs.list.items j ≡ Some child → slice_get cs.queues.items j ≡ Some queue
      → HoldsGathered tx child queue (below supply) ((locked_kind shape.shape).by path plan j end) (locked_to shape.shape n t j)

  -- ---- the calls of a piece

  -- the queue of child j has what a piece reads of it
  abbrev pub CanCarry : Children S C shape tx → Piece → ℕ → Type 0
  CanCarry cs at j = (queue : Queue) → slice_get cs.queues.items j ≡ Some queue → queue.gone + carried_in shape.shape j false at.slot at.len ≤ length queue.bits.bits

  -- its bits are carried
  abbrev pub Carry : Children S C shape tx → Children S C shape tx → Piece → ℕ → Type 0
  Carry old new at j =
      (queue next : Queue) → slice_get old.queues.items j ≡ Some queue → slice_get new.queues.items j ≡ Some next → CarriesBits shape.shape j at.slot at.len queue next (slice_index_or (columns new) j [])

  -- the queues and columns of others are as they were
  pub record KeepOthers (old new : Children S C shape tx) (i : ℕ) : Type 0 where
    pub queues : (j : ℕ) → (j ≡ i → ⊥) → slice_get new.queues.items j ≡ slice_get old.queues.items j
    pub others : (j : ℕ) → (j ≡ i → ⊥) → slice_index_or (columns new) j [] ≡ slice_index_or (columns old) j []
