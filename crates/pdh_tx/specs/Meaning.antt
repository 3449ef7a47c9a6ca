-- What a tree of multiplexers makes, takes and meets.
use Rattle.std.specs.Prelude.{◌≡◌, ℕ, suc, ◌+◌, ◌<◌, ◌≤◌, Bool, true, false, List, [], length, Option, Some, None, if◌then◌else◌}
use Rattle.std.specs.List.{slice_index_or}
use Rattle.pdh_edge.specs.Counts.{one_more}
use Rattle.pdh_edge.specs.Leaves.{HaveLists}
use Rattle.pdh_edge.specs.Ports.{Inputs, Takes}
use Rattle.pdh_shape.specs.declared.role.Service.{Service}
use Rattle.pdh_shape.specs.declared.place.Path.{Path}
use Rattle.pdh_shape.specs.declared.place.Level.{Level}
use Rattle.pdh_shape.specs.Frame.{idle}
use Rattle.pdh_levels.specs.Levels.{level_at}
use Rattle.pdh_line.specs.Paths.{steps_of}
use Rattle.pdh_line.specs.Progress.{FrameNumbers, Stores, by_stores}
use Rattle.pdh_line.specs.Sending.{Mode}
use Rattle.pdh_line.specs.Sending.Mode.{Plain, Slipping}
use Rattle.pdh_clock.specs.Contents.{Contents, frame_count, counts}
use Rattle.pdh_slips.specs.declared.slip.Slip.{Slip}
use Rattle.pdh_tx.specs.declared.tx.TxStop.{TxStop}
use Rattle.pdh_tx.specs.declared.tx.TxStop.TheVariants.{Failed, Ended, LogFailed}

-- ---- what decides a line

-- a schedule: what an event of a store does, how many frames each node has, and how many bits of each of its tributaries arrive in
-- each of them
pub record Plan : Type 0 where
  pub mode : Mode
  pub frames : Path → ℕ
  pub counts : Path → ℕ → ℕ → ℕ

-- the mode of a line whose stores slip or don't
abbrev pub mode_of : Bool → Mode
mode_of slips = (if slips then Slipping else Plain)

-- the frames and counts of a schedule, for such a line
abbrev pub plan_in : Contents → Bool → Plan
plan_in schedule slips = record {
  mode = mode_of slips;
  frames = λ node. frame_count schedule.rows (steps_of node);
  counts = λ node. counts schedule.rows (steps_of node);
}

-- for one that the first event of a store ends
abbrev pub plan_of : Contents → Plan
plan_of schedule = plan_in schedule false

-- a schedule, each leaf's list, and what the service bits of each of its own frames say
pub record Supply : Type 0 where
  pub plan : Plan
  pub lists : ℕ → ℕ → Bool
  pub says : ℕ → Service

-- ---- nodes

-- a node of a tree: its path, and the numbers of its frame
pub record NodeFrame : Type 0 where
  pub path : Path
  pub numbers : FrameNumbers

-- a node with these stores has none
abbrev pub is_locked : Stores → Bool
is_locked stores = by_stores stores false (λ reads. true)

-- A level has these numbers. It doesn't tell which tributary a slot reads, so of a node without stores it tells that there
-- are none.
pub record HasNumbers (level : Level) (numbers : FrameNumbers) : Type 0 where
  pub len : level.len ≡ numbers.len
  pub tribs : level.tribs ≡ numbers.tribs
  pub low : level.low ≡ numbers.low
  pub locked : level.locked ≡ is_locked numbers.stores

-- it is a node of a chain with these levels, and its level has its numbers
pub record IsNodeOf (levels : List Level) (node : NodeFrame) : Type 0 where
  pub level : Level
  pub at : level_at levels (steps_of node.path) ≡ Some level
  pub numbers : HasNumbers level node.numbers

-- ---- a multiplexer

-- a multiplexer's line, and what making it takes and meets
pub record Meaning : Type 0 where
  -- its nodes, itself first and each before those below it; a leaf has none
  pub nodes : List NodeFrame
  -- the leaves whose bits it takes
  pub leaves : ℕ → Bool
  -- bit x of the line
  pub line : Supply → ℕ → Bool
  -- how many bits of leaf k are taken by the time when x line bits are made
  pub given : Plan → ℕ → ℕ → ℕ
  -- which frame of its own bit x begins
  pub begins : ℕ → Option ℕ
  -- what stands first in the way of bit x, where the leaves' lists hold so many bits in all
  pub obstacle : Plan → (ℕ → ℕ) → ℕ → Option TxStop
  -- the slips in making bit x, in order
  pub slips : Plan → ℕ → List Slip

-- where nothing stands in the way of a bit, nothing does where the leaves' lists hold more
abbrev pub StaysFree : Meaning → Type 0
StaysFree m = (plan : Plan) (few more : ℕ → ℕ) (x : ℕ) → ((k : ℕ) → few k ≤ more k) → m.obstacle plan few x ≡ None → m.obstacle plan more x ≡ None

-- each leaf has a list
abbrev pub HoldsAll : (ℕ → Bool) → Inputs → Type 0
HoldsAll leaves inputs = HaveLists leaves inputs.holds

-- the lists hold so many bits in all, where x bits of the line are made
abbrev pub Fits : Meaning → Plan → ℕ → Inputs → (ℕ → ℕ) → Type 0
Fits m plan x inputs size = (k : ℕ) → m.leaves k ≡ true → size k ≡ m.given plan x k + inputs.left k

-- these bits are those of the lists from here on
abbrev pub Agrees : (ℕ → Bool) → (ℕ → ℕ → Bool) → (ℕ → ℕ) → (ℕ → List Bool) → Type 0
Agrees leaves lists from given = (k : ℕ) → leaves k ≡ true → (i : ℕ) → i < length (given k) → slice_index_or (given k) i false ≡ lists k (from k + i)

-- a frame that bit x begins says this
abbrev pub Says : Meaning → Supply → Service → ℕ → Type 0
Says m supply now x = (n : ℕ) → m.begins x ≡ Some n → supply.says n ≡ now

-- A call made this bit of the line, after x bits. `now` is what a frame says that it begins; `placed` tells how many bits
-- the new state has made, and `old` and `new` which supplies the states stand for.
pub record Makes (m : Meaning) (now : Service) (placed : ℕ → Type 0) (old new : Supply → ℕ → Type 0) (plan : Plan) (x : ℕ) (bit : Bool) (before after : Inputs) : Type 0 where
  -- the bits that the leaves gave: none of other leaves, and as many as the next bit takes
  pub given : ℕ → List Bool
  pub takes : Takes given before after
  pub others : (k : ℕ) → m.leaves k ≡ false → given k ≡ []
  pub exact : (k : ℕ) → m.leaves k ≡ true → m.given plan x k + length (given k) ≡ m.given plan (suc x) k
  -- nothing stood in its way
  pub free : (size : ℕ → ℕ) → Fits m plan x before size → m.obstacle plan size x ≡ None
  -- one bit more is made
  pub place : placed (suc x)
  -- for every supply that the old state stood for and that has these bits next: the bit is the line's, and the new state
  -- stands for the supply
  pub onward : (supply : Supply) → supply.plan ≡ plan → old supply x → Says m supply now x → Agrees m.leaves supply.lists (m.given plan x) given
      → (bit ≡ m.line supply x) × new supply (suc x)

-- a call failed of what it was lent
abbrev pub is_failed : TxStop → Bool
is_failed Failed = true
is_failed LogFailed = true
is_failed _ = false

-- a count of faults after a call that met this: one more where it failed, and else as it was
abbrev pub faults_met : TxStop → ℕ → ℕ
faults_met Failed faults = one_more faults
faults_met stop faults = faults

-- a call met this: Failed where the feed failed, which was counted once, or a log failed, else exactly what stands first in the way
pub record Met (fits : (ℕ → ℕ) → Type 0) (first : (ℕ → ℕ) → Option TxStop) (stop : TxStop) (faults now : ℕ) : Type 0 where
  pub counted : now ≡ faults_met stop faults
  pub is_first : is_failed stop ≡ false → (size : ℕ → ℕ) → fits size → first size ≡ Some stop

-- where a leaf ended, its list is used up
abbrev pub IsUsedUp : TxStop → Inputs → Type 0
IsUsedUp (Ended leaf) inputs = inputs.left leaf ≡ 0
IsUsedUp _ inputs = Unit {0}

-- a call stopped after x bits: the leaves gave no more than the next bit takes, and this is what it met
pub record Stops (m : Meaning) (plan : Plan) (x : ℕ) (stop : TxStop) (before after : Inputs) (faults now : ℕ) : Type 0 where
  pub given : ℕ → List Bool
  pub takes : Takes given before after
  pub others : (k : ℕ) → m.leaves k ≡ false → given k ≡ []
  pub no_more : (k : ℕ) → m.leaves k ≡ true → m.given plan x k + length (given k) ≤ m.given plan (suc x) k
  pub used_up : IsUsedUp stop after
  pub met : Met (Fits m plan x before) (λ size. m.obstacle plan size x) stop faults now

-- ---- a state that has made no bit

-- it isn't stopped, has made no bit whatever the schedule and the supply, and its service bits are idle
pub record IsFresh {T : Type 0} (stands_at : T → Plan → ℕ → Type 0) (stands_for : T → Supply → ℕ → Type 0) (says : T → Service) (is_stopped : T → Bool) (t : T) : Type 0 where
  pub runs : is_stopped t ≡ false
  pub idles : says t ≡ idle
  pub placed : (plan : Plan) → stands_at t plan 0
  pub held : (supply : Supply) → stands_for t supply 0
