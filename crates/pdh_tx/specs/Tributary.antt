-- What contracts see of a tributary.
use Rattle.std.specs.Prelude.{◌≡◌, ◌⊎◌, ℕ, suc, ◌<◌, Bool, true, false, ◌==◌, List, Option, None, length, drop, replicate, nat_le, flat_map, if◌then◌else◌, Result}
use Rattle.std.specs.List.{range_with_len}
use Rattle.pdh_edge.specs.Ports.{Inputs}
use Rattle.pdh_shape.specs.OwnNumbers.{lead, threshold, store_size}
use Rattle.pdh_shape.specs.declared.place.Place.{Place}
use Rattle.pdh_line.specs.Edits.{half_store, edited}
use Rattle.pdh_line.specs.Sending.{Mode}
use Rattle.pdh_line.specs.Sending.Mode.{Plain, Slipping}
use Rattle.pdh_slips.specs.declared.log.SlipLog as log
use Rattle.pdh_tx.specs.declared.tx.Tx.{Ghosts}
use Rattle.pdh_tx.specs.declared.tx.TxStop.{TxStop}
use Rattle.pdh_tx.specs.declared.tributary.FrameShare.{FrameShare}
use Rattle.pdh_tx.specs.declared.tributary.Tributary.{Tributary}
use Rattle.pdh_tx.specs.Meaning.{Plan, Supply, Meaning, Fits, Met}
use Rattle.pdh_tx.specs.declared.tx.TxStop.TheVariants.{Underflow, LogFailed}
use Rattle.pdh_tx.specs.Held.{Placed, Held, Gains, Halts, stops, slips, slip_if, Readout, unslipped, with_read, with_slip, arrival, slips_at_arrival, lead_of, first_some}
use Rattle.pdh_tx.specs.Telling.{Tells}

-- its child has made so many bits, and this was read of its store
abbrev pub placed_in : {C : Type 0} → Ghosts C → Tributary C → Plan → ℕ → Readout → Type 0
placed_in tx w = Placed tx.stands_at tx.says tx.is_stopped w.child w.store

-- what it holds is what this supply gives
abbrev pub held_in : {C : Type 0} → Ghosts C → Tributary C → Supply → ℕ → Readout → Type 0
held_in tx w = Held tx.stands_for tx.meaning w.child w.store

-- the same, where no slip came and so many bits were read
abbrev pub plain_placed_in : {C : Type 0} → Ghosts C → Tributary C → Plan → ℕ → ℕ → Type 0
plain_placed_in tx w plan made read = placed_in tx w plan made (unslipped read)

-- what its child makes, takes and meets
abbrev pub meaning_in : {C : Type 0} → Ghosts C → Tributary C → Meaning
meaning_in tx w = tx.meaning w.child

abbrev pub share_in : {C : Type 0} → Tributary C → FrameShare
share_in w = w.share

abbrev pub child_in : {C : Type 0} → Tributary C → C
child_in w = w.child

abbrev pub store_in : {C : Type 0} → Tributary C → List Bool
store_in w = w.store

-- whether a frame that begins now carries an additional bit
abbrev pub would_carry : {C : Type 0} → Tributary C → Bool
would_carry w = nat_le threshold (length w.store)

-- what may stand in the way of a bit that arrives at it, where its child has made so many
abbrev pub arrival_in : {C : Type 0} → Ghosts C → Tributary C → Plan → Place → (ℕ → ℕ) → ℕ → List (Option TxStop)
arrival_in tx w plan place size made = arrival (meaning_in tx w) plan place size made (length w.store)

-- what was read of its store, where a bit arrives: in slip mode a full store slips first
abbrev pub after_arrival : {C : Type 0} → Tributary C → Mode → Readout → Readout
after_arrival w mode out = with_slip (slips mode (nat_le store_size (length w.store))) true out

-- its child means the same, and the frame in progress brings and carries the same of it
pub record KeepsShare {C : Type 0} (tx : Ghosts C) (old new : Tributary C) : Type 0 where
  pub same : meaning_in tx new ≡ meaning_in tx old
  pub share : new.share ≡ old.share

-- ---- slips of its store

-- what a call told a log of a slip of the store at a place, which comes in slip mode where the test holds
abbrev pub TellsOwn : {G T : Type 0} → log.Ghosts G → G → G → Mode → Bool → Bool → Place → Result T TxStop → Type 0
TellsOwn logs old new mode test over place = Tells logs old new (slip_if (slips mode test) over place)

-- in slip mode a full store dropped the oldest half of its bits
abbrev pub DropsHalf : {C : Type 0} → Tributary C → Tributary C → Mode → Type 0
DropsHalf old new mode = new.store ≡ (if slips mode (nat_le store_size (length old.store)) then drop half_store old.store else old.store)

-- in slip mode its store has room for a bit
abbrev pub HasRoomIn : {C : Type 0} → Tributary C → Mode → Type 0
HasRoomIn w Plain = Unit {0}
HasRoomIn w Slipping = length w.store < store_size

-- in slip mode an empty store was given ones, half of what it may hold
abbrev pub AddsHalf : {C : Type 0} → Tributary C → Tributary C → Mode → Type 0
AddsHalf old new mode = new.store ≡ (if slips mode (length old.store == 0) then replicate half_store true else old.store)

-- what was read of its store, where its next bit is read: in slip mode an empty store slips first
abbrev pub after_read : {C : Type 0} → Tributary C → Mode → Readout → Readout
after_read w mode out = with_read 1 (with_slip (slips mode (length w.store == 0)) false out)

-- the store gave its next bit, as the line has it, and wasn't empty in plain mode
pub record LeavesBit {C : Type 0} (tx : Ghosts C) (old new : Tributary C) (mode : Mode) (bit : Bool) : Type 0 where
  pub placed : (plan : Plan) (made : ℕ) (out : Readout) → placed_in tx old plan made out → placed_in tx new plan made (after_read old mode out)
  pub bit_is : (supply : Supply) (made : ℕ) (out : Readout) → held_in tx old supply made out
      → (bit ≡ edited (after_read old mode out).edits ((meaning_in tx old).line supply) out.read) × held_in tx new supply made (after_read old mode out)
  pub some : stops mode (length old.store == 0) ≡ false

-- it gave none: it was empty in plain mode, or a log failed
abbrev pub LeavesNone : {C : Type 0} → Tributary C → Mode → Place → TxStop → Type 0
LeavesNone w mode place stop = ((stop ≡ Underflow place) × (stops mode (length w.store == 0) ≡ true)) ⊎ (stop ≡ LogFailed)

-- ---- its next bit

-- its child has made some bits
abbrev pub StandsIn : {C : Type 0} → Ghosts C → Tributary C → Plan → Type 0
StandsIn tx w plan = (made : ℕ) × (out : Readout) × placed_in tx w plan made out

-- it took its child's next bit into its store, and nothing stood in the way
pub record TakesBit {C : Type 0} (tx : Ghosts C) (old new : Tributary C) (plan : Plan) (place : Place) (made : ℕ) (out : Readout) (before after : Inputs) : Type 0 where
  pub placed : placed_in tx new plan (suc made) (after_arrival old plan.mode out)
  pub gains : Gains (meaning_in tx old) plan (held_in tx old) (held_in tx new) made (suc made) out (after_arrival old plan.mode out) before after
  pub free : (size : ℕ → ℕ) → Fits (meaning_in tx old) plan made before size → first_some (arrival_in tx old plan place size made) ≡ None

abbrev pub TakesNext : {C : Type 0} → Ghosts C → Tributary C → Tributary C → Plan → Place → Inputs → Inputs → Type 0
TakesNext tx old new plan place before after = (made : ℕ) (out : Readout) → placed_in tx old plan made out → TakesBit tx old new plan place made out before after

-- it met what stands first in the way of it
pub record StopsAtBit {C : Type 0} (tx : Ghosts C) (w : Tributary C) (plan : Plan) (place : Place) (made : ℕ) (stop : TxStop) (before after : Inputs) (faults now : ℕ) : Type 0 where
  pub halts : Halts (meaning_in tx w) plan made (suc made) stop before after
  pub met : Met (Fits (meaning_in tx w) plan made before) (λ size. first_some (arrival_in tx w plan place size made)) stop faults now

abbrev pub StopsAtNext : {C : Type 0} → Ghosts C → Tributary C → Plan → Place → TxStop → Inputs → Inputs → ℕ → ℕ → Type 0
StopsAtNext tx w plan place stop before after faults now = (made : ℕ) (out : Readout) → placed_in tx w plan made out → StopsAtBit tx w plan place made stop before after faults now

-- and told a log of the slips in it
abbrev pub TellsArrival : {C G T : Type 0} → Ghosts C → Tributary C → Plan → Place → log.Ghosts G → G → G → Result T TxStop → Type 0
TellsArrival tx w plan place logs old new result = (made : ℕ) (out : Readout) → placed_in tx w plan made out → Tells logs old new (slips_at_arrival (meaning_in tx w) plan place made (length w.store)) result

-- ---- its lead

-- it took its lead, and nothing stood in the way
pub record TakesLead {C : Type 0} (tx : Ghosts C) (old new : Tributary C) (plan : Plan) (before after : Inputs) : Type 0 where
  pub placed : plain_placed_in tx new plan lead 0
  pub gains : Gains (meaning_in tx old) plan (held_in tx old) (held_in tx new) 0 lead (unslipped 0) (unslipped 0) before after
  pub free : (size : ℕ → ℕ) → Fits (meaning_in tx old) plan 0 before size → first_some (lead_of (meaning_in tx old) plan size) ≡ None

-- it met what stands first in the way of it
pub record StopsInLead {C : Type 0} (tx : Ghosts C) (w : Tributary C) (plan : Plan) (stop : TxStop) (before after : Inputs) (faults now : ℕ) : Type 0 where
  pub halts : Halts (meaning_in tx w) plan 0 lead stop before after
  pub met : Met (Fits (meaning_in tx w) plan 0 before) (λ size. first_some (lead_of (meaning_in tx w) plan size)) stop faults now

-- and told a log of the slips in making it
abbrev pub TellsLead : {C G T : Type 0} → Ghosts C → Tributary C → Plan → log.Ghosts G → G → G → Result T TxStop → Type 0
TellsLead tx w plan logs old new = Tells logs old new (flat_map ((meaning_in tx w).slips plan) (range_with_len 0 lead))
