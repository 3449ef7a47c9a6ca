-- The tributaries of a node.
use Rattle.std.specs.Prelude.{◌≡◌, ℕ, suc, ◌+◌, ◌<◌, Bool, false, List, [], map, slice_get, length, ◌==◌, Option, Some, Result}
use Rattle.std.specs.List.{slice_index_or}
use Rattle.pdh_bits.specs.BitOut.{BoundedBits}
use Rattle.pdh_edge.specs.Ports.{Inputs}
use Rattle.pdh_shape.specs.declared.shape.Shape as shape
use Rattle.pdh_shape.specs.declared.place.Path.{Path}
use Rattle.pdh_shape.specs.declared.place.Place.{Place}
use Rattle.pdh_shape.specs.declared.role.Service.{Service}
use Rattle.pdh_shape.specs.Tributary.{turned}
use Rattle.pdh_shape.specs.OwnNumbers.{lead}
use Rattle.pdh_line.specs.Sending.{Mode, Source, slot_bit, odd_before}
use Rattle.pdh_line.specs.Edits.{edited}
use Rattle.pdh_clock.specs.Contents.{Contents}
use Rattle.pdh_slips.specs.declared.log.SlipLog as log
use Rattle.pdh_slips.specs.declared.slip.Slip.{Slip}
use Rattle.pdh_tx.specs.declared.tx.Tx.{Ghosts}
use Rattle.pdh_tx.specs.declared.tx.TxStop.{TxStop}
use Rattle.pdh_tx.specs.declared.tx.TxStop.TheVariants.{Failed}
use Rattle.pdh_tx.specs.declared.tributary.FrameShare.{FrameShare}
use Rattle.pdh_tx.specs.declared.tributaries.Tributaries.{Tributaries}
use Rattle.pdh_tx.specs.declared.pieces.Piece.{Piece}
use Rattle.pdh_tx.specs.declared.tributary.Tributary.{Tributary}
use Rattle.pdh_tx.specs.Meaning.{Plan, Supply, Meaning, is_failed, faults_met}
use Rattle.pdh_tx.specs.Held.{first_some, stops, Readout, unslipped}
use Rattle.pdh_tx.specs.Slipping.{read_to, arrived_to, arriving_to}
use Rattle.pdh_tx.specs.Tributary.{placed_in, held_in, meaning_in, share_in, after_read, LeavesNone, TellsOwn}
use Rattle.pdh_tx.specs.Node.{below, source_of, line_of, set_at, EachPlaced, EachHeld, IsDecided, Advance, Blocked, Stays, led_to, lead_at, leads, taken_to, came_to, came_at, beginning, arrival_at, arrivals, reads, lead_slips, leads_slips, beginning_slips, arrival_slips, arrivals_slips, read_slips}
use Rattle.pdh_tx.specs.Body.{AreFedBelow, IsPieceClear, HaltsInPiece}
use Rattle.pdh_tx.specs.Stored.{stored_kind, Before, Through, HoldBefore, HoldThrough}
use Rattle.pdh_tx.specs.Telling.{Tells}
use Rattle.pdh_tx.specs.Passing.{CanPass, Passes, made_through, read_through, HoldsBits, HoldsBitsOf, HasRows, HasRowsOf}

-- Steps of a node that come one after another by a plan, whatever the lists hold in all, how many bits of each tributary are taken by
-- them, what is read of each before and after, and the slips in them.
pub record Stretch : Type 0 where
  pub plan : Plan
  -- taken before and after all of them, and at most where something stands in the way
  pub made : ℕ → ℕ
  pub more : ℕ → ℕ
  pub most : ℕ → ℕ
  pub read : ℕ → Readout
  pub left : ℕ → Readout
  pub steps : (ℕ → ℕ) → List (Option TxStop)
  pub slips : List Slip

-- a call told a log of the slips in them
abbrev pub TellIn : {G T : Type 0} → Stretch → log.Ghosts G → G → G → Result T TxStop → Type 0
TellIn stretch logs old new = Tells logs old new stretch.slips

module _ {S C : Type 0} {shape : shape.Ghosts S} {tx : Ghosts C} where
  -- ---- what they are

  -- what each makes, takes and meets
  abbrev pub meanings : Tributaries S C shape tx → List Meaning
  meanings ts = map (meaning_in tx) ts.list.items

  -- what the frame in progress brings and carries of each
  abbrev pub shares : Tributaries S C shape tx → List FrameShare
  shares ts = map share_in ts.list.items

  -- their columns of a piece of a frame
  abbrev pub columns : Tributaries S C shape tx → List (List Bool)
  columns ts = map (λ (column : BoundedBits). column.bits) ts.scratch.columns.items

  -- what decides their node's line
  abbrev pub source_in : Tributaries S C shape tx → Path → Supply → Source
  source_in ts path = source_of path (meanings ts)

  -- each leaf has a list, and their node and those below it are nodes of this schedule's chain
  abbrev pub AreFed : Tributaries S C shape tx → Path → Contents → Inputs → Type 0
  AreFed ts path = AreFedBelow shape.shape path (meanings ts)

  -- ---- where they stand

  -- each has made so many bits, and this was read of each
  abbrev pub HaveMade : Tributaries S C shape tx → Plan → (ℕ → ℕ) → (ℕ → Readout) → Type 0
  HaveMade ts = EachPlaced (placed_in tx) ts.list.items

  -- and what each holds is what this supply gives
  abbrev pub HoldFor : Tributaries S C shape tx → Supply → (ℕ → ℕ) → (ℕ → Readout) → Type 0
  HoldFor ts = EachHeld (held_in tx) ts.list.items

  -- the decisions of frame n are made
  abbrev pub HaveDecided : Tributaries S C shape tx → Path → Plan → ℕ → Type 0
  HaveDecided ts path plan n = IsDecided share_in shape.shape path plan n ts.list.items

  -- they have made all bits before slot t of frame n; inside a frame its decisions are made, and it is scheduled
  abbrev pub StandBefore : Tributaries S C shape tx → Path → Plan → ℕ → ℕ → Type 0
  StandBefore ts path plan = Before (placed_in tx) (held_in tx) share_in shape.shape path plan (read_to shape.shape path plan) ts.list.items

  -- they have taken what arrives in slot t of frame n
  abbrev pub HaveArrived : Tributaries S C shape tx → Path → Plan → ℕ → ℕ → Type 0
  HaveArrived ts path plan n t = HaveMade ts plan (came_at shape.shape path plan n (suc t)) (arrived_to shape.shape path plan n t)

  -- and the slot's bit is read
  abbrev pub HaveMadeSlot : Tributaries S C shape tx → Path → Plan → ℕ → ℕ → Type 0
  HaveMadeSlot ts path plan n t = HaveMade ts plan (came_at shape.shape path plan n (suc t)) (read_to shape.shape path plan n (suc t))

  -- ---- steps

  -- tributary j takes its lead
  abbrev pub lead_stretch : Tributaries S C shape tx → Plan → ℕ → Stretch
  lead_stretch ts plan j = record {
    plan = plan;
    made = led_to j;
    more = led_to (suc j);
    most = λ j. lead;
    read = λ j. unslipped 0;
    left = λ j. unslipped 0;
    steps = λ size. lead_at plan (meanings ts) size j;
    slips = lead_slips plan (meanings ts) j;
  }

  -- the first so many take their leads, which are all of them
  abbrev pub leads_stretch : Tributaries S C shape tx → Plan → ℕ → Stretch
  leads_stretch ts plan count = record {
    plan = plan;
    made = led_to 0;
    more = led_to count;
    most = λ j. lead;
    read = λ j. unslipped 0;
    left = λ j. unslipped 0;
    steps = λ size. leads shape.shape plan (meanings ts) size;
    slips = leads_slips shape.shape plan (meanings ts);
  }

  -- what begins in slot t of frame n
  abbrev pub beginning_stretch : Tributaries S C shape tx → Path → Plan → ℕ → ℕ → Stretch
  beginning_stretch ts path plan n t = record {
    plan = plan;
    made = taken_to shape.shape path plan n t;
    more = came_to shape.shape path plan n t 0;
    most = came_to shape.shape path plan n t 0;
    read = read_to shape.shape path plan n t;
    left = read_to shape.shape path plan n t;
    steps = λ size. beginning shape.shape path plan (meanings ts) size n t;
    slips = beginning_slips shape.shape plan (meanings ts) n t;
  }

  -- tributary j takes what arrives in slot t of frame n
  abbrev pub arrival_stretch : Tributaries S C shape tx → Path → Plan → ℕ → ℕ → ℕ → Stretch
  arrival_stretch ts path plan n t j = record {
    plan = plan;
    made = came_to shape.shape path plan n t j;
    more = came_to shape.shape path plan n t (suc j);
    most = came_at shape.shape path plan n (suc t);
    read = arriving_to shape.shape path plan n t j;
    left = arriving_to shape.shape path plan n t (suc j);
    steps = λ size. arrival_at shape.shape path plan (meanings ts) size n t j;
    slips = arrival_slips shape.shape path plan (meanings ts) n t j;
  }

  -- the first so many do, which are all of them
  abbrev pub arrivals_stretch : Tributaries S C shape tx → Path → Plan → ℕ → ℕ → ℕ → Stretch
  arrivals_stretch ts path plan n t count = record {
    plan = plan;
    made = came_to shape.shape path plan n t 0;
    more = came_to shape.shape path plan n t count;
    most = came_at shape.shape path plan n (suc t);
    read = arriving_to shape.shape path plan n t 0;
    left = arriving_to shape.shape path plan n t count;
    steps = λ size. arrivals shape.shape path plan (meanings ts) size n t;
    slips = arrivals_slips shape.shape path plan (meanings ts) n t;
  }

  -- they stand at its first step
  abbrev pub StandAt : Tributaries S C shape tx → Stretch → Type 0
  StandAt ts stretch = HaveMade ts stretch.plan stretch.made stretch.read

  -- they went through all of it, and nothing stood in the way
  abbrev pub GoThrough : Tributaries S C shape tx → Tributaries S C shape tx → Stretch → Inputs → Inputs → Type 0
  GoThrough old new stretch = Advance (placed_in tx) (held_in tx) (meanings old) stretch.plan old.list.items new.list.items stretch.made stretch.more stretch.read stretch.left stretch.steps

  -- they stopped at the first step in whose way something stood
  abbrev pub StopIn : Tributaries S C shape tx → Stretch → TxStop → Inputs → Inputs → ℕ → ℕ → Type 0
  StopIn ts stretch = Blocked (meanings ts) stretch.plan stretch.made stretch.most stretch.steps

  -- ---- one slot

  -- The bit of slot t of frame n, of which the arrivals are taken: the line's for every supply that these tributaries hold
  -- bits for, where the frame says `say` and `odd` is whether the information and justifiable slots of the frame before hold
  -- an odd number of ones. They hold what it gives thereafter too.
  abbrev pub GiveBit : Tributaries S C shape tx → Tributaries S C shape tx → Path → Mode → ℕ → ℕ → Service → Bool → Bool → Type 0
  GiveBit old new path mode n t say odd bit =
      (supply : Supply) → supply.plan.mode ≡ mode → HaveArrived old path supply.plan n t → IsDecided share_in shape.shape path supply.plan n old.list.items → supply.says n ≡ say → odd ≡ odd_before shape.shape (source_in old path supply) n
      → HoldFor old (below supply) (came_at shape.shape path supply.plan n (suc t)) (arrived_to shape.shape path supply.plan n t)
      → (bit ≡ slot_bit shape.shape (source_in old path supply) n t (shape.shape.role t))
      × HoldFor new (below supply) (came_at shape.shape path supply.plan n (suc t)) (read_to shape.shape path supply.plan n (suc t))

  -- they read the bit of slot t of frame n
  abbrev pub ReadSlot : Tributaries S C shape tx → Tributaries S C shape tx → Path → Mode → ℕ → ℕ → Type 0
  ReadSlot old new path mode n t = (plan : Plan) → plan.mode ≡ mode → IsDecided share_in shape.shape path plan n old.list.items → HaveArrived old path plan n t → HaveMadeSlot new path plan n t

  -- this stands first in the way of the read of slot t of frame n, if anything does
  abbrev pub MeetAtRead : Tributaries S C shape tx → Path → Mode → ℕ → ℕ → Option TxStop → Type 0
  MeetAtRead ts path mode n t stop = (plan : Plan) → plan.mode ≡ mode → IsDecided share_in shape.shape path plan n ts.list.items → HaveArrived ts path plan n t → first_some (reads shape.shape path plan n t) ≡ stop

  -- the read stopped: no call of a feed failed, and unless a log did this stands first in its way
  pub record StopAtRead (ts : Tributaries S C shape tx) (path : Path) (mode : Mode) (n t : ℕ) (stop : TxStop) : Type 0 where
    pub uncounted : (faults : ℕ) → faults_met stop faults ≡ faults
    pub met : is_failed stop ≡ false → MeetAtRead ts path mode n t (Some stop)

  -- a call told a log of the slips in the read of slot t of frame n
  abbrev pub TellAtRead : {G T : Type 0} → Tributaries S C shape tx → Path → Mode → ℕ → ℕ → log.Ghosts G → G → G → Result T TxStop → Type 0
  TellAtRead ts path mode n t logs old new result =
      (plan : Plan) → plan.mode ≡ mode → IsDecided share_in shape.shape path plan n ts.list.items → HaveArrived ts path plan n t → Tells logs old new (read_slips shape.shape path plan n t) result

  -- tributary j gave the next bit of its store, as the line has it
  pub record GiveNext (old new : Tributaries S C shape tx) (mode : Mode) (j : ℕ) (bit : Bool) : Type 0 where
    -- it stood among them
    pub was : Tributary C
    pub at : slice_get old.list.items j ≡ Some was
    pub placed : (plan : Plan) (made : ℕ → ℕ) (read : ℕ → Readout) → HaveMade old plan made read → HaveMade new plan made (set_at read j (after_read was mode (read j)))
    pub bit_is : (supply : Supply) (made : ℕ → ℕ) (read : ℕ → Readout) → HoldFor old supply made read
        → (bit ≡ turned (shape.shape.inverted j) (edited (after_read was mode (read j)).edits (line_of (slice_get (meanings old) j) supply) (read j).read)) × HoldFor new supply made (set_at read j (after_read was mode (read j)))
    -- and wasn't empty in plain mode
    pub some : stops mode (length was.store == 0) ≡ false

  -- it gave none: it was empty in plain mode, or a log failed
  pub record GiveNone (ts : Tributaries S C shape tx) (mode : Mode) (j : ℕ) (place : Place) (stop : TxStop) : Type 0 where
    pub was : Tributary C
    pub at : slice_get ts.list.items j ≡ Some was
    pub none : LeavesNone was mode place stop

  -- a call told a log of the slip of its store
  pub record TellNext {G T : Type 0} (ts : Tributaries S C shape tx) (mode : Mode) (j : ℕ) (place : Place) (logs : log.Ghosts G) (old new : G) (result : Result T TxStop) : Type 0 where
    pub was : Tributary C
    pub at : slice_get ts.list.items j ≡ Some was
    pub told : TellsOwn logs old new mode (length was.store == 0) false place result

  -- ---- many slots

  -- the first i have passed their bits of a piece
  abbrev pub HavePassed : Tributaries S C shape tx → Plan → Piece → ℕ → Type 0
  HavePassed ts plan at i = EachPlaced (placed_in tx) ts.list.items plan (made_through shape.shape plan at i) (read_through shape.shape plan at i)

  -- nothing stands in the way of tributary j in a piece
  abbrev pub IsPassable : Tributaries S C shape tx → Plan → Piece → Inputs → ℕ → Type 0
  IsPassable ts plan at inputs j = (m : Meaning) → slice_get (meanings ts) j ≡ Some m → CanPass shape.shape plan at j m inputs

  -- those from i up to k passed their bits of a piece, and wrote this
  abbrev pub PassOn : Tributaries S C shape tx → Tributaries S C shape tx → Plan → Piece → ℕ → ℕ → Inputs → Inputs → (Source → Type 0) → Type 0
  PassOn old new plan at i k =
      Passes (held_in tx) at.path (meanings old) plan old.list.items new.list.items (made_through shape.shape plan at i) (made_through shape.shape plan at k)
      (read_through shape.shape plan at i) (read_through shape.shape plan at k)

  -- tributary i passed its bits, which stand in its column
  pub record PassOne (old new : Tributaries S C shape tx) (plan : Plan) (at : Piece) (i : ℕ) (before after : Inputs) : Type 0 where
    pub placed : HavePassed new plan at (suc i)
    pub passes : PassOn old new plan at i (suc i) before after (λ source. HoldsBitsOf shape.shape source at.frame at.slot at.len (columns new) i)
    pub rows : HasRowsOf shape.shape at.slot at.len (columns new) i

  -- the first so many did, which are all of them
  pub record PassAll (old new : Tributaries S C shape tx) (plan : Plan) (at : Piece) (count : ℕ) (before after : Inputs) : Type 0 where
    pub placed : HavePassed new plan at count
    pub passes : PassOn old new plan at 0 count before after (λ source. HoldsBits shape.shape source at.frame at.slot at.len (columns new) count)
    pub rows : HasRows shape.shape at.slot at.len (columns new) count

  -- a call failed on the way of those from i on through a piece
  abbrev pub FailFrom : Tributaries S C shape tx → Plan → Piece → ℕ → Inputs → Inputs → Type 0
  FailFrom ts plan at i = Stays (meanings ts) plan (made_through shape.shape plan at i) (came_at shape.shape at.path plan at.frame (at.slot + at.len)) Failed

  -- what no call that passes bits changes: what they mean, what the frame brings and carries of them, the overhead that is written
  pub record KeepAll (old new : Tributaries S C shape tx) : Type 0 where
    pub same : meanings new ≡ meanings old
    pub same_shares : shares new ≡ shares old
    pub overhead : new.scratch.overhead ≡ old.scratch.overhead

  -- nor the columns of the first i
  pub record KeepFirst (old new : Tributaries S C shape tx) (i : ℕ) : Type 0 where
    pub all : KeepAll old new
    pub earlier : (j : ℕ) → j < i → slice_index_or (columns new) j [] ≡ slice_index_or (columns old) j []

  -- nothing stands in the way of the slots of a piece, before which they stand
  abbrev pub IsClearFor : Tributaries S C shape tx → Plan → Piece → Inputs → Type 0
  IsClearFor ts = IsPieceClear (stored_kind shape.shape) (meanings ts)

  -- a call failed on the way through a piece
  abbrev pub FailIn : Tributaries S C shape tx → Plan → Piece → Inputs → Inputs → Type 0
  FailIn ts = HaltsInPiece (stored_kind shape.shape) (meanings ts)

  -- ---- their node

  -- they have made the slots of frame n below slot t
  abbrev pub StandThrough : Tributaries S C shape tx → Path → Plan → ℕ → ℕ → Type 0
  StandThrough ts path plan = Through (placed_in tx) (held_in tx) share_in shape.shape path plan (read_to shape.shape path plan) ts.list.items

  -- what they hold before a slot is what this supply gives
  abbrev pub HoldToHere : Tributaries S C shape tx → Path → Plan → Supply → ℕ → ℕ → Type 0
  HoldToHere ts path plan supply n t = HoldBefore (placed_in tx) (held_in tx) share_in shape.shape path plan (read_to shape.shape path plan) ts.list.items n t supply

  -- and after the slots below it
  abbrev pub HoldToThere : Tributaries S C shape tx → Path → Plan → Supply → ℕ → ℕ → Type 0
  HoldToThere ts path plan supply n t = HoldThrough (placed_in tx) (held_in tx) share_in shape.shape path plan (read_to shape.shape path plan) ts.list.items n t supply
