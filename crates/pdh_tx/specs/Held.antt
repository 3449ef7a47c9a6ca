-- A tributary of a multiplexer: a child, and the store of the bits that it gave and that the line hasn't carried.
use Rattle.std.specs.Prelude.{◌≡◌, ℕ, ◌+◌, ◌≤◌, Bool, true, false, nat_le, List, [], ◌∷◌, ◌++◌, length, map, Option, Some, None, if◌then◌else◌}
use Rattle.std.specs.List.{range_with_len}
use Rattle.pdh_edge.specs.Ports.{Inputs, Takes}
use Rattle.pdh_shape.specs.declared.place.Place.{Place}
use Rattle.pdh_shape.specs.declared.role.Service.{Service}
use Rattle.pdh_shape.specs.Frame.{idle}
use Rattle.pdh_shape.specs.OwnNumbers.{lead, store_size}
use Rattle.pdh_line.specs.Edits.{half_store, Edit, edited}
use Rattle.pdh_line.specs.Sending.{Mode}
use Rattle.pdh_line.specs.Sending.Mode.{Plain, Slipping}
use Rattle.pdh_slips.specs.declared.slip.Slip.{Slip}
use Rattle.pdh_slips.specs.Logs.{slip_at}
use Rattle.pdh_tx.specs.declared.tx.TxStop.{TxStop}
use Rattle.pdh_tx.specs.declared.tx.TxStop.TheVariants.{Overflow}
use Rattle.pdh_tx.specs.Meaning.{Plan, Supply, Meaning, Agrees, IsUsedUp}

-- ---- what may stand in the way

-- the first of these that is there
abbrev pub first_some : {X : Type 0} → List (Option X) → Option X
first_some [] = None
first_some (None ∷ rest) = first_some rest
first_some (Some x ∷ rest) = Some x

-- the value where the test holds
abbrev pub some_if : {X : Type 0} → Bool → X → Option X
some_if test x = (if test then Some x else None)

-- an event of a store ends a line in plain mode
abbrev pub stops : Mode → Bool → Bool
stops Plain event = event
stops Slipping event = false

-- and is a slip in the other
abbrev pub slips : Mode → Bool → Bool
slips Plain event = false
slips Slipping event = event

-- the slip at a place, where the test holds
abbrev pub slip_if : Bool → Bool → Place → List Slip
slip_if test over place = (if test then slip_at over place ∷ [] else [])

-- what may stand in the way of an arrival at a store with this fill: what stands in the way of the child's bit, then in plain mode
-- a full store
abbrev pub arrival : Meaning → Plan → Place → (ℕ → ℕ) → ℕ → ℕ → List (Option TxStop)
arrival m plan place size made fill = m.obstacle plan size made ∷ some_if (stops plan.mode (nat_le store_size fill)) (Overflow place) ∷ []

-- the slips in it: those in making the child's bit, then in slip mode that of a full store
abbrev pub slips_at_arrival : Meaning → Plan → Place → ℕ → ℕ → List Slip
slips_at_arrival m plan place made fill = m.slips plan made ++ slip_if (slips plan.mode (nat_le store_size fill)) true place

-- what may stand in the way of a tributary's lead
abbrev pub lead_of : Meaning → Plan → (ℕ → ℕ) → List (Option TxStop)
lead_of m plan size = map (m.obstacle plan size) (range_with_len 0 lead)

-- ---- the state

-- these bits are those of the line from a bit on
abbrev pub IsPart : (ℕ → Bool) → List Bool → ℕ → Type 0
IsPart line bits from = bits ≡ map line (range_with_len from (length bits))

-- what was read of a store: how many bits, and what slips did to its bits so far
pub record Readout : Type 0 where
  pub read : ℕ
  pub edits : List Edit

-- so many bits, where no slip came
abbrev pub unslipped : ℕ → Readout
unslipped read = record { read = read; edits = [] }

-- so many bits more
abbrev pub with_read : ℕ → Readout → Readout
with_read count out = record { read = out.read + count; edits = out.edits }

-- with a slip, if the test holds
abbrev pub with_slip : Bool → Bool → Readout → Readout
with_slip test over out = (if test then record { read = out.read; edits = out.edits ++ record { over = over; place = out.read } ∷ [] } else out)

-- how many bits are gone from a store of which so many were read: overflows took out others
abbrev pub gone_with : List Edit → ℕ → ℕ
gone_with [] read = read
gone_with (edit ∷ edits) read = gone_with edits (if edit.over then read + half_store else read)

-- how many bits were put into a store at which so many arrived: underflows put in ones
abbrev pub put_with : List Edit → ℕ → ℕ
put_with [] made = made
put_with (edit ∷ edits) made = put_with edits (if edit.over then made else made + half_store)

-- the child has made so many bits, this was read of the store, and what was put into it and isn't gone stands in it
pub record Placed {C : Type 0} (stands_at : C → Plan → ℕ → Type 0) (says : C → Service) (is_stopped : C → Bool) (child : C) (store : List Bool) (plan : Plan) (made : ℕ) (out : Readout) : Type 0 where
  pub runs : is_stopped child ≡ false
  pub idles : says child ≡ idle
  pub place : stands_at child plan made
  pub count : gone_with out.edits out.read + length store ≡ put_with out.edits made

-- the store holds the tributary's bits, which are the child's line with the slips' edits, from the one on that is read next; behind
-- these follow those that the child hasn't made
pub record Held {C : Type 0} (stands_for : C → Supply → ℕ → Type 0) (meaning : C → Meaning) (child : C) (store : List Bool) (supply : Supply) (made : ℕ) (out : Readout) : Type 0 where
  pub quiet : (n : ℕ) → supply.says n ≡ idle
  pub made_for : stands_for child supply made
  pub holds : IsPart (edited out.edits ((meaning child).line supply)) store out.read
  pub ahead : (k : ℕ) → edited out.edits ((meaning child).line supply) (out.read + length store + k) ≡ (meaning child).line supply (made + k)

-- ---- steps

-- A tributary took more bits of its child. `old` and `new` tell what the states hold, by the supply, by how many bits are made and
-- by what was read, which is `read` before and `left` after.
pub record Gains {R : Type 0} (m : Meaning) (plan : Plan) (old new : Supply → ℕ → R → Type 0) (made more : ℕ) (read left : R) (before after : Inputs) : Type 0 where
  pub given : ℕ → List Bool
  pub takes : Takes given before after
  pub others : (k : ℕ) → m.leaves k ≡ false → given k ≡ []
  pub exact : (k : ℕ) → m.leaves k ≡ true → m.given plan made k + length (given k) ≡ m.given plan more k
  pub onward : (supply : Supply) → supply.plan ≡ plan → old supply made read → Agrees m.leaves supply.lists (m.given plan made) given → new supply more left

-- a tributary stopped on its way to so many bits
pub record Halts (m : Meaning) (plan : Plan) (made most : ℕ) (stop : TxStop) (before after : Inputs) : Type 0 where
  pub given : ℕ → List Bool
  pub takes : Takes given before after
  pub others : (k : ℕ) → m.leaves k ≡ false → given k ≡ []
  pub no_more : (k : ℕ) → m.leaves k ≡ true → m.given plan made k + length (given k) ≤ m.given plan most k
  pub used_up : IsUsedUp stop after
