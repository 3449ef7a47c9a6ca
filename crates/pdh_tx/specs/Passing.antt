-- Many slots of a node's frame at once.
use Rattle.std.specs.Prelude.{◌≡◌, ℕ, ◌+◌, ◌-◌, ◌<◌, ◌≤◌, Bool, true, false, nat_lt, List, [], length, map, if◌then◌else◌}
use Rattle.std.specs.List.{range_with_len, slice_index_or}
use Rattle.pdh_edge.specs.Ports.{Inputs, Takes}
use Rattle.pdh_shape.specs.declared.place.Path.{Path}
use Rattle.pdh_shape.specs.Frame.{FrameShape}
use Rattle.pdh_shape.specs.Payload.{is_payload}
use Rattle.pdh_shape.specs.Tributary.{reads_from, reads_below}
use Rattle.pdh_shape.specs.OwnNumbers.{store_size}
use Rattle.pdh_line.specs.Sending.{Source, slot_bit}
use Rattle.pdh_line.specs.Edits.{Edit, edited}
use Rattle.pdh_runs.specs.Pieces.{row, rows, overhead_before, FillsColumn}
use Rattle.pdh_tx.specs.declared.tx.TxStop.TheVariants.{Failed}
use Rattle.pdh_tx.specs.declared.pieces.Piece.{Piece}
use Rattle.pdh_tx.specs.declared.tributary.Tributary.{Tributary}
use Rattle.pdh_tx.specs.declared.tx.Tx.{Ghosts}
use Rattle.pdh_tx.specs.Making.{IsClear}
use Rattle.pdh_tx.specs.Meaning.{Plan, Supply, Meaning, Agrees}
use Rattle.pdh_shape.specs.declared.role.Service.{Service}
use Rattle.pdh_tx.specs.declared.tributary.FrameShare.{FrameShare}
use Rattle.pdh_tx.specs.Held.{Held, Readout, with_read, Gains, Halts}
use Rattle.pdh_tx.specs.Slipping.{carriage_in, read_to, HasCome, HoldsMost}
use Rattle.pdh_tx.specs.Tributary.{placed_in, held_in, meaning_in}
use Rattle.pdh_tx.specs.Node.{below, source_of, any_leaf, given_by, EachHeld, came_at, overhead_bit}

-- values of which the first i are others
abbrev pub up_to : {X : Type 0} → (ℕ → X) → (ℕ → X) → ℕ → ℕ → X
up_to f g i j = (if nat_lt j i then g j else f j)

-- how many bits of tributary j are taken, where the first i tributaries have passed their bits of a piece
abbrev pub made_through : FrameShape → Plan → Piece → ℕ → ℕ → ℕ
made_through s plan at = up_to (came_at s at.path plan at.frame at.slot) (came_at s at.path plan at.frame (at.slot + at.len))

-- and what is read of it
abbrev pub read_through : FrameShape → Plan → Piece → ℕ → ℕ → Readout
read_through s plan at = up_to (read_to s at.path plan at.frame at.slot) (read_to s at.path plan at.frame (at.slot + at.len))

-- what slips did to the bits of tributary j by slot t of frame n
abbrev pub edits_by : FrameShape → Path → Plan → ℕ → ℕ → ℕ → List Edit
edits_by s path plan n t j = (carriage_in s path plan j).edits n t

-- nothing stands in the way of tributary j in a piece
pub record CanPass (s : FrameShape) (plan : Plan) (at : Piece) (j : ℕ) (m : Meaning) (inputs : Inputs) : Type 0 where
  -- none of its child's bits
  pub clear : IsClear m plan (came_at s at.path plan at.frame at.slot j) (came_at s at.path plan at.frame (at.slot + at.len) j) inputs
  -- no slip changes its bits
  pub unchanged : (v : ℕ) → v ≤ at.len → edits_by s at.path plan at.frame (at.slot + v) j ≡ edits_by s at.path plan at.frame at.slot j
  -- the bits that the piece carries are there
  pub enough : HasCome (read_to s at.path plan at.frame (at.slot + at.len) j) (came_at s at.path plan at.frame (at.slot + at.len) j)
  -- and its store holds those that are left over
  pub few : HoldsMost (read_to s at.path plan at.frame at.slot j) (came_at s at.path plan at.frame at.slot j) store_size
      → HoldsMost (read_to s at.path plan at.frame (at.slot + at.len) j) (came_at s at.path plan at.frame (at.slot + at.len) j) store_size

-- how many slots of a piece of a frame, from slot `first` on, carry a bit of tributary j
abbrev pub carried_in : FrameShape → ℕ → Bool → ℕ → ℕ → ℕ
carried_in s j more first len = reads_below s j more (first + len) - reads_below s j more first

-- what a tributary holds, where the next so many of its bits went into the column of a piece of a frame, and this column
abbrev pub HeldAndFilled : {C : Type 0} → (C → Supply → ℕ → Type 0) → (C → Meaning) → FrameShape → ℕ → Bool → ℕ → ℕ → ℕ → C → List Bool → List Bool → Supply → ℕ → Readout → Type 0
HeldAndFilled stands_for meaning s j more first len gone child store column supply made out =
    Held stands_for meaning child store supply made (with_read gone out) × FillsColumn s j more first len (map (edited out.edits ((meaning child).line supply)) (range_with_len out.read gone)) column

-- the same, of tributary j in a frame in progress, before and after the bits of a piece went into their column
abbrev pub passed_in : {C : Type 0} → Ghosts C → FrameShape → ℕ → ℕ → ℕ → Tributary C → Tributary C → List Bool → Supply → ℕ → Readout → Type 0
passed_in tx s j first len old new =
    HeldAndFilled tx.stands_for tx.meaning s j old.share.more first len (carried_in s j old.share.more first len) new.child new.store

-- Nothing stands in the way of a tributary in a piece: none of the bits of its child, so many, the bits that the piece carries
-- are there, and its store holds those that are left over.
pub record PassesFreely {C : Type 0} (tx : Ghosts C) (s : FrameShape) (j first len arriving : ℕ) (w : Tributary C) (plan : Plan) (inputs : Inputs) : Type 0 where
  pub made : ℕ
  pub out : Readout
  pub placed : placed_in tx w plan made out
  pub clear : IsClear (meaning_in tx w) plan made (made + arriving) inputs
  pub enough : carried_in s j w.share.more first len ≤ length w.store + arriving
  pub few : length w.store ≤ store_size → length w.store + arriving ≤ carried_in s j w.share.more first len + store_size

-- it passed its bits of the piece, which stand in this column
pub record PassesBits {C : Type 0} (tx : Ghosts C) (s : FrameShape) (j first len arriving : ℕ) (old new : Tributary C) (column : List Bool) (plan : Plan) (made : ℕ) (out : Readout) (before after : Inputs) : Type 0 where
  pub placed : placed_in tx new plan (made + arriving) (with_read (carried_in s j old.share.more first len) out)
  pub gains : Gains (meaning_in tx old) plan (held_in tx old) (passed_in tx s j first len old new column) made (made + arriving) out out before after

-- and the column is as long as the piece wants it
pub record PassesColumn {C : Type 0} (tx : Ghosts C) (s : FrameShape) (j first len arriving : ℕ) (old new : Tributary C) (column : List Bool) (plan : Plan) (before after : Inputs) : Type 0 where
  pub bits : (made : ℕ) (out : Readout) → placed_in tx old plan made out → PassesBits tx s j first len arriving old new column plan made out before after
  pub rows : length column ≡ rows s first len

-- a call failed on its way through the piece
abbrev pub HaltsPassing : {C : Type 0} → Ghosts C → ℕ → Tributary C → Plan → Inputs → Inputs → Type 0
HaltsPassing tx arriving w plan before after =
    (made : ℕ) (out : Readout) → placed_in tx w plan made out → Halts (meaning_in tx w) plan made (made + arriving) Failed before after

-- the column of tributary j holds the bits of its slots of a piece of frame n
abbrev pub HoldsBitsOf : FrameShape → Source → ℕ → ℕ → ℕ → List (List Bool) → ℕ → Type 0
HoldsBitsOf s source n first len columns j =
    (v : ℕ) → v < len → reads_from j true (s.role (first + v)) ≡ true → slice_index_or (slice_index_or columns j []) (row s first v) false ≡ slot_bit s source n (first + v) (s.role (first + v))

-- those of the first i tributaries do
abbrev pub HoldsBits : FrameShape → Source → ℕ → ℕ → ℕ → List (List Bool) → ℕ → Type 0
HoldsBits s source n first len columns i = (j : ℕ) → j < i → HoldsBitsOf s source n first len columns j

-- the column of tributary j is as long as a piece wants it
abbrev pub HasRowsOf : FrameShape → ℕ → ℕ → List (List Bool) → ℕ → Type 0
HasRowsOf s first len columns j = length (slice_index_or columns j []) ≡ rows s first len

-- those of the first i tributaries are
abbrev pub HasRows : FrameShape → ℕ → ℕ → List (List Bool) → ℕ → Type 0
HasRows s first len columns i = (j : ℕ) → j < i → HasRowsOf s first len columns j

-- these are the bits of the slots of a piece that are no payload slots
abbrev pub HoldsOverhead : FrameShape → Service → Bool → List FrameShare → ℕ → ℕ → List Bool → Type 0
HoldsOverhead s say odd shares first len overhead =
    (v : ℕ) → v < len → is_payload (s.role (first + v)) ≡ false → slice_index_or overhead (overhead_before s (first + v) - overhead_before s first) false ≡ overhead_bit s say odd shares (s.role (first + v))

-- Tributaries took bits of their children, and bits of them were read; `gone` and `left` tell what was read of each before and after.
-- `written` tells what was written, by what decides the node's line.
pub record Passes {W R : Type 0} (held : W → Supply → ℕ → R → Type 0) (path : Path) (ms : List Meaning) (plan : Plan) (old new : List W) (made more : ℕ → ℕ) (gone left : ℕ → R) (before after : Inputs) (written : Source → Type 0) : Type 0 where
  pub given : ℕ → List Bool
  pub takes : Takes given before after
  pub others : (k : ℕ) → any_leaf ms k ≡ false → given k ≡ []
  pub exact : (k : ℕ) → any_leaf ms k ≡ true → given_by ms plan made k + length (given k) ≡ given_by ms plan more k
  pub onward : (supply : Supply) → supply.plan ≡ plan → EachHeld held old (below supply) made gone → Agrees (any_leaf ms) supply.lists (given_by ms plan made) given
      → EachHeld held new (below supply) more left × written (source_of path ms supply)

-- the bits of a piece of frame n are those of the line that this source decides
abbrev pub HoldsLine : FrameShape → Source → ℕ → ℕ → List Bool → Type 0
HoldsLine s source n t bits = (v : ℕ) → v < length bits → slice_index_or bits v false ≡ slot_bit s source n (t + v) (s.role (t + v))
