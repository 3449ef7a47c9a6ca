-- Many frames of tributaries with stores at once: a store's bits, and behind them those that the child made for all of these frames,
-- stand in one queue.
use Rattle.std.specs.Prelude.{◌≡◌, ℕ, suc, ◌+◌, ◌*◌, ◌-◌, ◌<◌, ◌≤◌, ◌^◌, Bool, true, false, nat_le, List, [], length, drop, slice_get, Some}
use Rattle.std.specs.List.{slice_index_or, zip}
use Rattle.pdh_edge.specs.Ports.{Inputs}
use Rattle.pdh_shape.specs.declared.place.Path.{Path}
use Rattle.pdh_shape.specs.declared.shape.Shape as shape
use Rattle.pdh_shape.specs.Frame.{FrameShape, idle}
use Rattle.pdh_shape.specs.OwnNumbers.{lead, threshold, store_size}
use Rattle.pdh_line.specs.Edits.{edited}
use Rattle.pdh_line.specs.Sending.{arrived_in, taken}
use Rattle.pdh_runs.specs.Pieces.{FillsColumn, rows}
use Rattle.pdh_tx.specs.declared.pieces.Piece.{Piece}
use Rattle.pdh_tx.specs.declared.queue.Queue.{Queue}
use Rattle.pdh_tx.specs.declared.quiet.NextBits.{NextBits}
use Rattle.pdh_tx.specs.declared.tributaries.Tributaries.{Tributaries}
use Rattle.pdh_tx.specs.declared.tributary.FrameShare.{FrameShare}
use Rattle.pdh_tx.specs.declared.tributary.Tributary.{Tributary}
use Rattle.pdh_tx.specs.declared.tx.Tx.{Ghosts}
use Rattle.pdh_tx.specs.declared.tx.TxStop.TheVariants.{Failed}
use Rattle.pdh_tx.specs.Making.{IsClear}
use Rattle.pdh_tx.specs.Meaning.{Plan, Supply, Meaning}
use Rattle.pdh_tx.specs.Held.{IsPart, Readout, Gains, gone_with, put_with}
use Rattle.pdh_tx.specs.Slipping.{read_to, HoldsMost}
use Rattle.pdh_tx.specs.Tributary.{placed_in, held_in, meaning_in}
use Rattle.pdh_tx.specs.Node.{below, taken_to, came_at, EachPlaced, Stays}
use Rattle.pdh_tx.specs.Passing.{up_to, carried_in, Passes}
use Rattle.pdh_tx.specs.Tributaries.{meanings, columns, HaveDecided}
use Rattle.pdh_tx.specs.Stored.{stored_kind}
use Rattle.pdh_tx.specs.Batches.{batch, MeetNothing}

-- ---- one tributary

-- the bits of the queue that aren't carried yet
abbrev pub waiting_in : Queue → List Bool
waiting_in queue = drop queue.gone queue.bits.bits

-- The child has made `end` bits of its line, of which `made` have come into the store by now, and this was read of it; those of them
-- that aren't carried stand in the queue.
pub record IsGathered {C : Type 0} (tx : Ghosts C) (child : C) (queue : Queue) (plan : Plan) (end made : ℕ) (out : Readout) : Type 0 where
  pub runs : tx.is_stopped child ≡ false
  pub idles : tx.says child ≡ idle
  pub place : tx.stands_at child plan end
  pub within : queue.gone + queue.fill ≤ length queue.bits.bits
  pub rest : queue.gone + queue.fill + end ≡ length queue.bits.bits + made
  pub count : gone_with out.edits out.read + queue.fill ≡ put_with out.edits made

-- and they are those of this supply
pub record HoldsGathered {C : Type 0} (tx : Ghosts C) (child : C) (queue : Queue) (supply : Supply) (end made : ℕ) (out : Readout) : Type 0 where
  pub quiet : (n : ℕ) → supply.says n ≡ idle
  pub made_for : tx.stands_for child supply end
  -- the queue's bits are the tributary's, which are the child's line with the slips' edits, from the one on that is read next
  pub holds : IsPart (edited out.edits ((tx.meaning child).line supply)) (waiting_in queue) out.read
  pub ahead : (k : ℕ) → edited out.edits ((tx.meaning child).line supply) (out.read + queue.fill + k) ≡ (tx.meaning child).line supply (made + k)

-- nothing stands in the way of the next bits of a tributary's child, so many
pub record GathersFreely {C : Type 0} (tx : Ghosts C) (w : Tributary C) (plan : Plan) (count : ℕ) (inputs : Inputs) : Type 0 where
  pub made : ℕ
  pub out : Readout
  pub placed : placed_in tx w plan made out
  pub clear : IsClear (meaning_in tx w) plan made (made + count) inputs

-- it took so many bits of its child, of which so many are in the store at once
pub record GathersBits {C : Type 0} (tx : Ghosts C) (old new : Tributary C) (queue : Queue) (plan : Plan) (count at_once made : ℕ) (out : Readout) (before after : Inputs) : Type 0 where
  pub placed : IsGathered tx new.child queue plan (made + count) (made + at_once) out
  pub gains : Gains (meaning_in tx old) plan (held_in tx old) (λ supply end read. HoldsGathered tx new.child queue supply end (made + at_once) read) made (made + count) out out before after

abbrev pub GathersAll : {C : Type 0} → Ghosts C → Tributary C → Tributary C → Queue → Plan → ℕ → ℕ → Inputs → Inputs → Type 0
GathersAll tx old new queue plan count at_once before after =
    (made : ℕ) (out : Readout) → placed_in tx old plan made out → GathersBits tx old new queue plan count at_once made out before after

-- what is left in the queue is in the store again
abbrev pub IsAllCarried : Queue → Type 0
IsAllCarried queue = queue.gone + queue.fill ≡ length queue.bits.bits

-- ---- a piece of a frame

-- how many bits of a tributary arrive in so many slots from slot `first` on
abbrev pub arriving_in : FrameShape → FrameShare → ℕ → ℕ → ℕ
arriving_in s share first len = arrived_in s share.arriving (first + len) - arrived_in s share.arriving first

-- the queue of tributary j has the bits that arrive in the piece, and by then those that the piece carries
pub record CanCarryBits (s : FrameShape) (j : ℕ) (share : FrameShare) (first len : ℕ) (queue : Queue) : Type 0 where
  pub fits : share.arriving ≤ s.len
  pub held : queue.gone + queue.fill + arriving_in s share first len ≤ length queue.bits.bits
  pub enough : carried_in s j share.more first len ≤ queue.fill + arriving_in s share first len

-- they were carried, and stand in this column
pub record CarriesBits (s : FrameShape) (j : ℕ) (share : FrameShare) (first len : ℕ) (old new : Queue) (column : List Bool) : Type 0 where
  pub bits : new.bits ≡ old.bits
  pub gone : new.gone ≡ old.gone + carried_in s j share.more first len
  pub fill : carried_in s j share.more first len + new.fill ≡ old.fill + arriving_in s share first len
  pub fills : FillsColumn s j share.more first len (waiting_in old) column
  pub rows : length column ≡ rows s first len

-- ---- on the way of gathering

-- how many bits have come into a store, and what was read of it; and whether the store's bits stand in the queue
pub record Progress : Type 0 where
  pub gathered : Bool
  pub came : ℕ
  pub out : Readout

abbrev pub progress_at : Bool → FrameShape → Path → Plan → ℕ → ℕ → ℕ → Progress
progress_at gathered s path plan n t j = record { gathered = gathered; came = came_at s path plan n t j; out = read_to s path plan n t j }

-- a tributary's child has made so many bits, which stand in its store or in its queue
abbrev pub PlacedBy : {C : Type 0} → Ghosts C → Bool → Tributary C → Queue → Plan → ℕ → ℕ → Readout → Type 0
PlacedBy tx false w queue plan made came out = placed_in tx w plan made out
PlacedBy tx true w queue plan made came out = IsGathered tx w.child queue plan made came out

abbrev pub HeldBy : {C : Type 0} → Ghosts C → Bool → Tributary C → Queue → Supply → ℕ → ℕ → Readout → Type 0
HeldBy tx false w queue supply made came out = held_in tx w supply made out
HeldBy tx true w queue supply made came out = HoldsGathered tx w.child queue supply made came out

abbrev pub placed_by : {C : Type 0} → Ghosts C → Tributary C × Queue → Plan → ℕ → Progress → Type 0
placed_by tx p plan made at = PlacedBy tx at.gathered p.0 p.1 plan made at.came at.out

abbrev pub held_by : {C : Type 0} → Ghosts C → Tributary C × Queue → Supply → ℕ → Progress → Type 0
held_by tx p supply made at = HeldBy tx at.gathered p.0 p.1 supply made at.came at.out

-- the next bits are some, and no more than those of so many frames
pub record AreFew (len : ℕ) (next : NextBits) : Type 0 where
  pub some : next.made < next.end
  pub few : next.end ≤ next.made + batch * len

-- how many bits of tributary j are taken before the next bits, and with them
abbrev pub made_before : FrameShape → Plan → NextBits → ℕ → ℕ
made_before s plan next = taken_to s next.path plan next.frame next.slot

abbrev pub made_behind : FrameShape → Plan → NextBits → ℕ → ℕ
made_behind s plan next j = taken s (plan.counts next.path j) next.end

-- the same, where the first i tributaries have gathered theirs
abbrev pub gathered_made : FrameShape → Plan → NextBits → ℕ → ℕ → ℕ
gathered_made s plan next = up_to (made_before s plan next) (made_behind s plan next)

-- and what has come and was read of each
abbrev pub gathered_progress : FrameShape → Plan → NextBits → ℕ → ℕ → Progress
gathered_progress s plan next = up_to (progress_at false s next.path plan next.frame next.slot) (progress_at true s next.path plan next.frame next.slot)

-- nothing stands in the way of the next bits of tributary j, which are few
pub record CanGatherBits (s : FrameShape) (m : Meaning) (plan : Plan) (next : NextBits) (inputs : Inputs) (j : ℕ) : Type 0 where
  pub clear : IsClear m plan (made_before s plan next j) (made_behind s plan next j) inputs
  pub few : made_behind s plan next j ≤ made_before s plan next j + lead + batch * s.len

-- all bits of a tributary have come, and its empty store has room for those that aren't carried
pub record IsLeft {C : Type 0} (w : Tributary C) (queue : Queue) : Type 0 where
  pub empty : w.store ≡ []
  pub all : IsAllCarried queue
  pub few : queue.fill ≤ store_size

module _ {S C : Type 0} {shape : shape.Ghosts S} {tx : Ghosts C} where
  -- each with its queue
  abbrev pub pairs : Tributaries S C shape tx → List (Tributary C × Queue)
  pairs ts = zip ts.list.items ts.queues.items

  -- the first i have gathered their next bits
  abbrev pub HaveGathered : Tributaries S C shape tx → Plan → NextBits → ℕ → Type 0
  HaveGathered ts plan next i = EachPlaced (placed_by tx) (pairs ts) plan (gathered_made shape.shape plan next i) (gathered_progress shape.shape plan next i)

  abbrev pub CanGather : Tributaries S C shape tx → Plan → NextBits → Inputs → ℕ → Type 0
  CanGather ts plan next inputs j = (m : Meaning) → slice_get (meanings ts) j ≡ Some m → CanGatherBits shape.shape m plan next inputs j

  -- those from i up to k gathered theirs
  abbrev pub GatherOn : Tributaries S C shape tx → Tributaries S C shape tx → Plan → NextBits → ℕ → ℕ → Inputs → Inputs → Type 0
  GatherOn old new plan next i k before after =
      Passes (held_by tx) next.path (meanings old) plan (pairs old) (pairs new) (gathered_made shape.shape plan next i) (gathered_made shape.shape plan next k)
      (gathered_progress shape.shape plan next i) (gathered_progress shape.shape plan next k) before after (λ source. Unit {0})

  -- the store of each is empty, and holds what it may, where the first i have gathered
  pub record AreEmptied (ts : Tributaries S C shape tx) (i : ℕ) : Type 0 where
    pub stores : (j : ℕ) (w : Tributary C) → j < i → slice_get ts.list.items j ≡ Some w → w.store ≡ []
    pub few : (j : ℕ) (queue : Queue) → j < i → slice_get ts.queues.items j ≡ Some queue → queue.fill ≤ store_size

  -- tributary i gathered its next bits
  pub record GatherOne (old new : Tributaries S C shape tx) (plan : Plan) (next : NextBits) (i : ℕ) (before after : Inputs) : Type 0 where
    pub placed : HaveGathered new plan next (suc i)
    pub gathers : GatherOn old new plan next i (suc i) before after
    pub emptied : AreEmptied old i → AreEmptied new (suc i)

  -- the first so many did, which are all of them
  pub record GatherAll (old new : Tributaries S C shape tx) (plan : Plan) (next : NextBits) (count : ℕ) (before after : Inputs) : Type 0 where
    pub placed : HaveGathered new plan next count
    pub gathers : GatherOn old new plan next 0 count before after
    pub emptied : AreEmptied new count

  -- a call failed on the way of those from i on
  abbrev pub FailGathering : Tributaries S C shape tx → Plan → NextBits → ℕ → Inputs → Inputs → Type 0
  FailGathering ts plan next i = Stays (meanings ts) plan (gathered_made shape.shape plan next i) (made_behind shape.shape plan next) Failed

  -- ---- where they stand then

  -- They have made all bits before slot t of frame n, and their children those that come before bit `end` of the line. Nothing
  -- stands in the way of the slots up to there.
  pub record Gathered (ts : Tributaries S C shape tx) (path : Path) (plan : Plan) (n t end : ℕ) : Type 0 where
    pub made : (j : ℕ) (w : Tributary C) (queue : Queue) → slice_get ts.list.items j ≡ Some w → slice_get ts.queues.items j ≡ Some queue
        → IsGathered tx w.child queue plan (taken shape.shape (plan.counts path j) end) (came_at shape.shape path plan n t j) (read_to shape.shape path plan n t j)
    pub empty : (j : ℕ) (w : Tributary C) → slice_get ts.list.items j ≡ Some w → w.store ≡ []
    pub few : (j : ℕ) → j < shape.shape.tribs → HoldsMost (read_to shape.shape path plan n t j) (came_at shape.shape path plan n t j) store_size
    pub decided : 0 < t → HaveDecided ts path plan n
    pub scheduled : 0 < t → n < plan.frames path
    pub bounded : plan.frames path < 2 ^ 64
    pub upto : n * shape.shape.len + t ≤ end
    pub some : 0 < end
    pub size : ℕ → ℕ
    pub slots : MeetNothing (stored_kind shape.shape) shape.shape (meanings ts) path plan size n t end

  -- and what they hold is what this supply gives
  abbrev pub HoldGathered : Tributaries S C shape tx → Path → Plan → Supply → ℕ → ℕ → ℕ → Type 0
  HoldGathered ts path plan supply n t end =
      (j : ℕ) (w : Tributary C) (queue : Queue) → slice_get ts.list.items j ≡ Some w → slice_get ts.queues.items j ≡ Some queue
      → HoldsGathered tx w.child queue (below supply) (taken shape.shape (plan.counts path j) end) (came_at shape.shape path plan n t j) (read_to shape.shape path plan n t j)

  -- the bits of a piece are gathered, and more
  abbrev pub HaveGatheredFor : Tributaries S C shape tx → Plan → Piece → Type 0
  HaveGatheredFor ts plan at = (end : ℕ) × (Gathered ts at.path plan at.frame at.slot end) × (at.frame * shape.shape.len + at.slot + at.len ≤ end)

  -- ---- the calls of a piece

  -- tributary j carries an additional bit of a frame where its store holds enough by then
  abbrev pub DecideFrom : Tributaries S C shape tx → Path → Plan → ℕ → ℕ → Type 0
  DecideFrom ts path plan n j =
      (w : Tributary C) (queue : Queue) → slice_get ts.list.items j ≡ Some w → slice_get ts.queues.items j ≡ Some queue
      → (w.share ≡ record { arriving = plan.counts path j n; more = nat_le threshold queue.fill }) × (plan.counts path j n ≤ shape.shape.len)

  -- tributary j has what a piece carries of it
  abbrev pub CanCarry : Tributaries S C shape tx → Piece → ℕ → Type 0
  CanCarry ts at j =
      (w : Tributary C) (queue : Queue) → slice_get ts.list.items j ≡ Some w → slice_get ts.queues.items j ≡ Some queue → CanCarryBits shape.shape j w.share at.slot at.len queue

  -- its bits are carried
  abbrev pub Carry : Tributaries S C shape tx → Tributaries S C shape tx → Piece → ℕ → Type 0
  Carry old new at j =
      (w : Tributary C) (queue next : Queue) → slice_get old.list.items j ≡ Some w → slice_get old.queues.items j ≡ Some queue → slice_get new.queues.items j ≡ Some next
      → CarriesBits shape.shape j w.share at.slot at.len queue next (slice_index_or (columns new) j [])

  -- the queues and columns of others are as they were
  pub record KeepOthers (old new : Tributaries S C shape tx) (i : ℕ) : Type 0 where
    pub queues : (j : ℕ) → (j ≡ i → ⊥) → slice_get new.queues.items j ≡ slice_get old.queues.items j
    pub others : (j : ℕ) → (j ≡ i → ⊥) → slice_index_or (columns new) j [] ≡ slice_index_or (columns old) j []

  -- ---- back into the stores

  -- what is left of tributary j fits its store
  abbrev pub IsLeftOver : Tributaries S C shape tx → ℕ → Type 0
  IsLeftOver ts j = (w : Tributary C) (queue : Queue) → slice_get ts.list.items j ≡ Some w → slice_get ts.queues.items j ≡ Some queue → IsLeft w queue

  -- they stand in it
  abbrev pub HasLeft : Tributaries S C shape tx → ℕ → Type 0
  HasLeft ts j = (w : Tributary C) (queue : Queue) → slice_get ts.list.items j ≡ Some w → slice_get ts.queues.items j ≡ Some queue → w.store ≡ waiting_in queue
