-- The children of a multiplexer without stores.
use Rattle.std.specs.Prelude.{◌≡◌, ℕ, suc, ◌+◌, ◌*◌, ◌<◌, ◌≤◌, ◌^◌, Bool, true, false, List, [], ◌∷◌, length, map, slice_get, Some, None, Result}
use Rattle.std.specs.List.{range_with_len, slice_index_or}
use Rattle.pdh_bits.specs.BitOut.{BoundedBits}
use Rattle.pdh_edge.specs.Ports.{Inputs, Takes}
use Rattle.pdh_shape.specs.declared.shape.Shape as shape
use Rattle.pdh_shape.specs.declared.place.Path.{Path}
use Rattle.pdh_shape.specs.declared.role.Service.{Service}
use Rattle.pdh_shape.specs.Frame.{FrameShape, idle}
use Rattle.pdh_shape.specs.Tributary.{turned}
use Rattle.pdh_line.specs.Sending.{Source, given}
use Rattle.pdh_runs.specs.Pieces.{rows, FillsColumn}
use Rattle.pdh_clock.specs.Contents.{Contents}
use Rattle.pdh_slips.specs.declared.log.SlipLog as log
use Rattle.pdh_tx.specs.declared.tx.Tx.{Ghosts}
use Rattle.pdh_tx.specs.declared.tx.TxStop.{TxStop}
use Rattle.pdh_tx.specs.declared.tx.TxStop.TheVariants.{Failed}
use Rattle.pdh_tx.specs.Meaning.{Plan, Supply, plan_of, Meaning, Agrees, HoldsAll}
use Rattle.pdh_tx.specs.Held.{Gains, Halts}
use Rattle.pdh_tx.specs.Making.{IsClear}
use Rattle.pdh_tx.specs.Node.{below, line_of, any_leaf, given_by, obstacle_of, slips_below, set_at, EachPlaced, EachHeld, EachInChain, AllFit, Blocked, Stays}
use Rattle.pdh_tx.specs.Passing.{up_to, carried_in, Passes, HoldsBits, HoldsBitsOf, HasRows, HasRowsOf}
use Rattle.pdh_tx.specs.Body.{Kind, GivesSlots}
use Rattle.pdh_tx.specs.Locked.{locked_to, locked_steps, locked_slot_slips}
use Rattle.pdh_tx.specs.Telling.{Tells}
use Rattle.pdh_locked.specs.declared.children.Children.{Children}

-- ---- frames

-- so many slots from slot t of frame n on, of the node at a path, are slots of frames that are scheduled
pub record AreScheduled (schedule : Contents) (s : FrameShape) (path : Path) (n t count : ℕ) : Type 0 where
  pub frames : ℕ
  pub scheduled : (m : ℕ) → n ≤ m → m < n + frames → m < (plan_of schedule).frames path
  pub inside : 0 < count → t + count ≤ frames * s.len

-- ---- one child

-- it has made so many bits by this schedule, isn't stopped, and its service bits are idle
pub record Stands {C : Type 0} (tx : Ghosts C) (child : C) (plan : Plan) (made : ℕ) : Type 0 where
  pub runs : tx.is_stopped child ≡ false
  pub idles : tx.says child ≡ idle
  pub place : tx.stands_at child plan made

-- what it holds is what this supply gives, whose frames are idle
pub record StandsFor {C : Type 0} (tx : Ghosts C) (child : C) (supply : Supply) (made : ℕ) : Type 0 where
  pub quiet : (n : ℕ) → supply.says n ≡ idle
  pub made_for : tx.stands_for child supply made

-- the same, where a node reads each bit as the child makes it
abbrev pub placed_in : {C : Type 0} → Ghosts C → C → Plan → ℕ → ℕ → Type 0
placed_in tx child plan made read = Stands tx child plan made

abbrev pub held_in : {C : Type 0} → Ghosts C → C → Supply → ℕ → ℕ → Type 0
held_in tx child supply made read = StandsFor tx child supply made

-- what child j holds after its bits from `from` on went into the column of a piece of a frame, and this column
abbrev pub filled_in : {C : Type 0} → Ghosts C → FrameShape → ℕ → ℕ → ℕ → ℕ → C → C → List Bool → Supply → ℕ → ℕ → Type 0
filled_in tx s j first len from old new column supply made read =
    StandsFor tx new supply made × FillsColumn s j false first len (map ((tx.meaning old).line supply) (range_with_len from (carried_in s j false first len))) column

-- it has made some bits by this plan, and nothing stands in the way of the next ones, so many
pub record FillsFreely {C : Type 0} (tx : Ghosts C) (child : C) (plan : Plan) (count : ℕ) (inputs : Inputs) : Type 0 where
  pub made : ℕ
  pub stands : Stands tx child plan made
  pub clear : IsClear (tx.meaning child) plan made (made + count) inputs

-- its bits of a piece of a frame went into the column of child j
pub record FillsBits {C : Type 0} (tx : Ghosts C) (s : FrameShape) (j first len : ℕ) (old new : C) (column : List Bool) (plan : Plan) (made : ℕ) (before after : Inputs) : Type 0 where
  pub placed : Stands tx new plan (made + carried_in s j false first len)
  pub gains : Gains (tx.meaning old) plan (held_in tx old) (filled_in tx s j first len made old new column) made (made + carried_in s j false first len) made made before after

-- and the column is as long as the piece wants it
pub record FillsOne {C : Type 0} (tx : Ghosts C) (s : FrameShape) (j first len : ℕ) (old new : C) (column : List Bool) (plan : Plan) (before after : Inputs) : Type 0 where
  pub bits : (made : ℕ) → Stands tx old plan made → FillsBits tx s j first len old new column plan made before after
  pub rows : length column ≡ rows s first len

-- a call failed on the way of its next bits, so many
abbrev pub HaltsFilling : {C : Type 0} → Ghosts C → C → Plan → ℕ → Inputs → Inputs → Type 0
HaltsFilling tx child plan count before after = (made : ℕ) → Stands tx child plan made → Halts (tx.meaning child) plan made (made + count) Failed before after

-- ---- all of them

-- Child j gave its next bit, as the line has it, where each has made so many.
pub record Reads {C : Type 0} (tx : Ghosts C) (s : FrameShape) (plan : Plan) (old new : List C) (made : ℕ → ℕ) (j : ℕ) (bit : Bool) (before after : Inputs) : Type 0 where
  pub given : ℕ → List Bool
  pub takes : Takes given before after
  pub others : (k : ℕ) → any_leaf (map tx.meaning old) k ≡ false → given k ≡ []
  pub exact : (k : ℕ) → any_leaf (map tx.meaning old) k ≡ true → given_by (map tx.meaning old) plan made k + length (given k) ≡ given_by (map tx.meaning old) plan (set_at made j (suc (made j))) k
  pub place : EachPlaced (placed_in tx) new plan (set_at made j (suc (made j))) (set_at made j (suc (made j)))
  -- nothing stood in its way
  pub free : (size : ℕ → ℕ) → AllFit (map tx.meaning old) plan made before size → obstacle_of (slice_get (map tx.meaning old) j) plan size (made j) ≡ None
  pub onward : (supply : Supply) → supply.plan ≡ plan → EachHeld (held_in tx) old supply made made → Agrees (any_leaf (map tx.meaning old)) supply.lists (given_by (map tx.meaning old) plan made) given
      → (bit ≡ turned (s.inverted j) (line_of (slice_get (map tx.meaning old) j) supply (made j))) × EachHeld (held_in tx) new supply (set_at made j (suc (made j))) (set_at made j (suc (made j)))

-- how they are taken
abbrev pub locked_kind : FrameShape → Kind
locked_kind s = record {
  taken = λ path plan. locked_to s;
  came = λ path plan. locked_to s;
  by = λ path plan j x. given s j (plan.counts path j) x;
  steps = locked_steps s;
  slips = λ path. locked_slot_slips s;
}

module _ {C : Type 0} (tx : Ghosts C) (s : FrameShape) (path : Path) (plan : Plan) where
  -- they have made all bits before slot t of frame n; inside a frame it is scheduled
  pub record Before (children : List C) (n t : ℕ) : Type 0 where
    pub made : EachPlaced (placed_in tx) children plan (locked_to s n t) (locked_to s n t)
    pub scheduled : 0 < t → n < plan.frames path
    pub bounded : 0 < t → suc n < 2 ^ 64

  -- they have made the slots of frame n below slot t
  pub record Through (children : List C) (n t : ℕ) : Type 0 where
    pub made : EachPlaced (placed_in tx) children plan (locked_to s n t) (locked_to s n t)
    pub scheduled : n < plan.frames path
    pub bounded : suc n < 2 ^ 64

  -- what they hold is what this supply gives
  abbrev pub HoldTo : List C → ℕ → ℕ → Supply → Type 0
  HoldTo children n t supply = EachHeld (held_in tx) children (below supply) (locked_to s n t) (locked_to s n t)

  -- they gave what slots t to u of frame n read
  abbrev pub Gives : List Meaning → List C → List C → ℕ → ℕ → ℕ → Service → Bool → List Bool → Inputs → Inputs → Type 0
  Gives ms old new n t u = GivesSlots (Through new n u) (HoldTo old n t) (HoldTo new n u) ms s path plan (locked_to s n t) (locked_to s n u) n t

module _ {S C : Type 0} {shape : shape.Ghosts S} {tx : Ghosts C} where
  -- what each makes, takes and meets
  abbrev pub meanings : Children S C shape tx → List Meaning
  meanings cs = map tx.meaning cs.list.items

  -- their columns of a piece of a frame
  abbrev pub columns : Children S C shape tx → List (List Bool)
  columns cs = map (λ (column : BoundedBits). column.bits) cs.scratch.columns.items

  -- each leaf has a list, and the nodes of each are nodes of this schedule's chain
  pub record AreFed (cs : Children S C shape tx) (schedule : Contents) (inputs : Inputs) : Type 0 where
    pub lists : HoldsAll (any_leaf (meanings cs)) inputs
    pub nodes : EachInChain schedule.levels (meanings cs)

  -- each has made so many bits
  abbrev pub HaveMade : Children S C shape tx → Plan → (ℕ → ℕ) → Type 0
  HaveMade cs plan made = EachPlaced (placed_in tx) cs.list.items plan made made

  -- they have made all bits before slot t of frame n; inside a frame it is scheduled
  abbrev pub StandBefore : Children S C shape tx → Path → Plan → ℕ → ℕ → Type 0
  StandBefore cs path plan = Before tx shape.shape path plan cs.list.items

  -- they have made the slots of frame n below slot t
  abbrev pub StandThrough : Children S C shape tx → Path → Plan → ℕ → ℕ → Type 0
  StandThrough cs path plan = Through tx shape.shape path plan cs.list.items

  -- what they hold is what this supply gives
  abbrev pub HoldsTo : Children S C shape tx → Path → Plan → Supply → ℕ → ℕ → Type 0
  HoldsTo cs path plan supply n t = HoldTo tx shape.shape path plan cs.list.items n t supply

  -- ---- one slot

  -- each has made some bits by this plan
  abbrev pub HaveMadeSome : Children S C shape tx → Plan → Type 0
  HaveMadeSome cs plan = (made : ℕ → ℕ) × HaveMade cs plan made

  -- child j gave its next bit
  abbrev pub ReadOne : Children S C shape tx → Children S C shape tx → Plan → ℕ → Bool → Inputs → Inputs → Type 0
  ReadOne old new plan j bit before after = (made : ℕ → ℕ) → HaveMade old plan made → Reads tx shape.shape plan old.list.items new.list.items made j bit before after

  -- or it met what stands in its way
  abbrev pub StopAtRead : Children S C shape tx → Plan → ℕ → TxStop → Inputs → Inputs → ℕ → ℕ → Type 0
  StopAtRead cs plan j stop before after faults now =
      (made : ℕ → ℕ) → HaveMade cs plan made
      → Blocked (meanings cs) plan made (set_at made j (suc (made j))) (λ size. obstacle_of (slice_get (meanings cs) j) plan size (made j) ∷ []) stop before after faults now

  -- and told a log of the slips in making it
  abbrev pub TellAtRead : {G T : Type 0} → Children S C shape tx → Plan → ℕ → log.Ghosts G → G → G → Result T TxStop → Type 0
  TellAtRead cs plan j logs old new result = (made : ℕ → ℕ) → HaveMade cs plan made → Tells logs old new (slips_below (slice_get (meanings cs) j) plan (made j)) result

  -- ---- many slots: so many, from slot t of frame n on

  -- how many bits each has made, where the first i have filled their slots
  abbrev pub filled_to : Children S C shape tx → ℕ → ℕ → ℕ → ℕ → ℕ → ℕ
  filled_to cs n t len = up_to (locked_to shape.shape n t) (locked_to shape.shape n (t + len))

  -- the first i have filled their slots
  abbrev pub HaveFilled : Children S C shape tx → Plan → ℕ → ℕ → ℕ → ℕ → Type 0
  HaveFilled cs plan n t len i = HaveMade cs plan (filled_to cs n t len i)

  -- nothing stands in the way of child j
  abbrev pub IsPassable : Children S C shape tx → Plan → ℕ → ℕ → ℕ → Inputs → ℕ → Type 0
  IsPassable cs plan n t len inputs j = (m : Meaning) → slice_get (meanings cs) j ≡ Some m → IsClear m plan (locked_to shape.shape n t j) (locked_to shape.shape n (t + len) j) inputs

  -- those from i up to k filled their slots, and wrote this
  abbrev pub FillOn : Children S C shape tx → Children S C shape tx → Plan → ℕ → ℕ → ℕ → ℕ → ℕ → Inputs → Inputs → (Source → Type 0) → Type 0
  FillOn old new plan n t len i k before after written =
      (path : Path) → Passes (held_in tx) path (meanings old) plan old.list.items new.list.items (filled_to old n t len i) (filled_to old n t len k) (filled_to old n t len i) (filled_to old n t len k) before after written

  -- child i filled its slots, whose bits stand in its column
  pub record FillOne (old new : Children S C shape tx) (plan : Plan) (n t len i : ℕ) (before after : Inputs) : Type 0 where
    pub placed : HaveFilled new plan n t len (suc i)
    pub fills : FillOn old new plan n t len i (suc i) before after (λ source. HoldsBitsOf shape.shape source n t len (columns new) i)
    pub rows : HasRowsOf shape.shape t len (columns new) i

  -- the first so many did, which are all of them
  pub record FillAll (old new : Children S C shape tx) (plan : Plan) (n t len count : ℕ) (before after : Inputs) : Type 0 where
    pub placed : HaveFilled new plan n t len count
    pub fills : FillOn old new plan n t len 0 count before after (λ source. HoldsBits shape.shape source n t len (columns new) count)
    pub rows : HasRows shape.shape t len (columns new) count

  -- a call failed on the way of those from i on
  abbrev pub FailFrom : Children S C shape tx → Plan → ℕ → ℕ → ℕ → ℕ → Inputs → Inputs → Type 0
  FailFrom cs plan n t len i = Stays (meanings cs) plan (filled_to cs n t len i) (locked_to shape.shape n (t + len)) Failed

  -- what no call that fills slots changes: what they mean, and the overhead that is written
  pub record KeepAll (old new : Children S C shape tx) : Type 0 where
    pub same : meanings new ≡ meanings old
    pub overhead : new.scratch.overhead ≡ old.scratch.overhead

  -- nor the columns of the first i
  pub record KeepFirst (old new : Children S C shape tx) (i : ℕ) : Type 0 where
    pub all : KeepAll old new
    pub earlier : (j : ℕ) → j < i → slice_index_or (columns new) j [] ≡ slice_index_or (columns old) j []
