-- What calls for bits want and leave, in words that the contracts of senders share. `schedule` is the schedule that a call goes
-- by, `before` and `after` are the lists of its feed, and `faults` and `now` its counts of faults.
use Rattle.std.specs.Prelude.{◌≡◌, ℕ, ◌+◌, ◌<◌, ◌≤◌, Bool, List, All, Result, OnOk}
use Rattle.pdh_bits.specs.BitOut.{BoundedBits}
use Rattle.pdh_packed.specs.Gaining.{IsGrown}
use Rattle.pdh_edge.specs.declared.port.Feed as feed
use Rattle.pdh_edge.specs.Ports.{Inputs, HasCause}
use Rattle.pdh_shape.specs.declared.role.Service.{Service}
use Rattle.pdh_clock.specs.Contents.{Contents}
use Rattle.pdh_slips.specs.declared.log.SlipLog as log
use Rattle.pdh_tx.specs.declared.tx.TxStop.{TxStop}
use Rattle.pdh_tx.specs.declared.tx.TxStop.TheVariants.{Failed}
use Rattle.pdh_tx.specs.Meaning.{Plan, Supply, Meaning, IsNodeOf, HoldsAll, Makes, Stops}
use Rattle.pdh_tx.specs.Held.{Halts}
use Rattle.pdh_tx.specs.Making.{IsClear, IsUneventful, MakesAll}
use Rattle.pdh_tx.specs.Telling.{Tells}

-- ---- the feed, and what is appended

-- a call that may meet what stands in its way took bits of a feed: no fault was counted where it met nothing
pub record Draws {F T E : Type 0} (calls : feed.Ghosts F) (old new : F) (result : Result T E) : Type 0 where
  pub fed : calls.fed old new
  pub unfailed : OnOk result (calls.feed_faults new ≡ calls.feed_faults old)

-- a call in whose way nothing stands took bits of a feed: a fault was counted exactly where it failed
pub record DrawsClear {F T E : Type 0} (calls : feed.Ghosts F) (old new : F) (result : Result T E) : Type 0 where
  pub fed : calls.fed old new
  pub cause : HasCause (calls.feed_faults old) (calls.feed_faults new) result

-- so many bits were appended where the call made them, and the capacity is as it was in any case
pub record Appends {T E : Type 0} (old new : BoundedBits) (count : ℕ) (result : Result T E) : Type 0 where
  pub grown : OnOk result (IsGrown old new count)
  pub capacity : new.capacity ≡ old.capacity

-- so many slots from slot `first` on are some slots of a frame of so many
pub record IsPieceOf (len first count : ℕ) : Type 0 where
  pub some : 0 < count
  pub inside : first + count ≤ len

-- the queue and the column of a tributary have room for so many bits
pub record HasRoomFor (bits rows : ℕ) (queue column : BoundedBits) : Type 0 where
  pub queue_room : bits ≤ queue.capacity
  pub column_room : rows ≤ column.capacity

-- they have the room that they had
pub record HasSameRoom (queue queue_now column column_now : BoundedBits) : Type 0 where
  pub queue_room : queue_now.capacity ≡ queue.capacity
  pub column_room : column_now.capacity ≡ column.capacity

-- ---- a sender

-- each leaf has a list, and the nodes are nodes of this schedule's chain
pub record IsFed (m : Meaning) (schedule : Contents) (inputs : Inputs) : Type 0 where
  pub lists : HoldsAll m.leaves inputs
  pub nodes : All (IsNodeOf schedule.levels) m.nodes

-- it means the same, and its next frame says the same
pub record IsKept {T : Type 0} (meaning : T → Meaning) (says : T → Service) (old new : T) : Type 0 where
  pub same : meaning new ≡ meaning old
  pub same_says : says new ≡ says old

-- it has made some bits by this plan
abbrev pub StandsBy : {T : Type 0} → (T → Plan → ℕ → Type 0) → T → Plan → Type 0
StandsBy stands_at t plan = (x : ℕ) × stands_at t plan x

-- and nothing stands in the way of its next bits, so many, which bring no slip
abbrev pub StandsClear : {T : Type 0} → (T → Meaning) → (T → Plan → ℕ → Type 0) → T → Plan → ℕ → Inputs → Type 0
StandsClear meaning stands_at t plan count inputs = (x : ℕ) × (stands_at t plan x) × (IsClear (meaning t) plan x (x + count) inputs)

-- the same, wherever it stands, and whatever the lists hold behind the bits that they have
abbrev pub GoesFree : {T : Type 0} → (T → Meaning) → (T → Plan → ℕ → Type 0) → T → Plan → ℕ → Inputs → Type 0
GoesFree meaning stands_at t plan count inputs = (x : ℕ) → stands_at t plan x → IsUneventful (meaning t) plan x (x + count) inputs

-- it made its next bit
abbrev pub MakesNext : {T : Type 0} → (T → Meaning) → (T → Service) → (T → Plan → ℕ → Type 0) → (T → Supply → ℕ → Type 0) → T → T → Plan → Bool → Inputs → Inputs → Type 0
MakesNext meaning says stands_at stands_for old new plan bit before after =
    (x : ℕ) → stands_at old plan x → Makes (meaning old) (says old) (stands_at new plan) (stands_for old) (stands_for new) plan x bit before after

-- it met what stands first in the way of it
abbrev pub StopsNext : {T : Type 0} → (T → Meaning) → (T → Plan → ℕ → Type 0) → T → Plan → TxStop → Inputs → Inputs → ℕ → ℕ → Type 0
StopsNext meaning stands_at t plan stop before after faults now =
    (x : ℕ) → stands_at t plan x → Stops (meaning t) plan x stop before after faults now

-- and told a log of the slips in making it
abbrev pub TellsNext : {T G X : Type 0} → (T → Meaning) → (T → Plan → ℕ → Type 0) → T → Plan → log.Ghosts G → G → G → Result X TxStop → Type 0
TellsNext meaning stands_at t plan logs old new result = (x : ℕ) → stands_at t plan x → Tells logs old new ((meaning t).slips plan x) result

-- it made its next bits, so many
abbrev pub MakesNextAll : {T : Type 0} → (T → Meaning) → (T → Service) → (T → Plan → ℕ → Type 0) → (T → Supply → ℕ → Type 0) → T → T → Plan → ℕ → List Bool → Inputs → Inputs → Type 0
MakesNextAll meaning says stands_at stands_for old new plan count bits before after =
    (x : ℕ) → stands_at old plan x → MakesAll (meaning old) (says old) (stands_at new plan) (stands_for old) (stands_for new) plan x (x + count) bits before after

-- a call failed on the way of its next bits, so many
abbrev pub HaltsNext : {T : Type 0} → (T → Meaning) → (T → Plan → ℕ → Type 0) → T → Plan → ℕ → Inputs → Inputs → Type 0
HaltsNext meaning stands_at t plan count before after =
    (x : ℕ) → stands_at t plan x → Halts (meaning t) plan x (x + count) Failed before after
