-- When the stores of a multiplexer slip, and what was read of them, slot by slot.
use Rattle.std.specs.Prelude.{ℕ, ◌+◌, ◌≤◌, Bool, true, false, nat_le, nat_lt, ◌&&◌, List, [], ◌∷◌, if◌then◌else◌}
use Rattle.pdh_shape.specs.declared.place.Path.{Path}
use Rattle.pdh_shape.specs.Frame.{FrameShape}
use Rattle.pdh_shape.specs.Tributary.{reads_below}
use Rattle.pdh_shape.specs.OwnNumbers.{store_size}
use Rattle.pdh_line.specs.Paths.{steps_of}
use Rattle.pdh_line.specs.Sending.Mode.{Slipping}
use Rattle.pdh_line.specs.Sending.{arrives_at, came_before, Carriage, carriage}
use Rattle.pdh_line.specs.Events.{overflow_at, underflow_at}
use Rattle.pdh_tx.specs.Meaning.{Plan}
use Rattle.pdh_tx.specs.Held.{slips, Readout, with_slip, gone_with, put_with}

-- how tributary j of the node at a path is carried
abbrev pub carriage_in : FrameShape → Path → Plan → ℕ → Carriage
carriage_in s path plan j = carriage plan.mode s j (plan.counts path j)

-- what was read of tributary j by slot t of frame n
abbrev pub read_to : FrameShape → Path → Plan → ℕ → ℕ → ℕ → Readout
read_to s path plan n t j = (let c = carriage_in s path plan j in record { read = c.sent n + reads_below s j (c.more n) t; edits = c.edits n t })

-- there is something in a list
abbrev pub has_any : {X : Type 0} → List X → Bool
has_any [] = false
has_any (x ∷ xs) = true

-- the store of tributary j of the node at a path slips over in slot t of frame n
abbrev pub slips_over : FrameShape → Path → Plan → ℕ → ℕ → ℕ → Bool
slips_over s path plan n t j = slips plan.mode (has_any (overflow_at Slipping s (steps_of path) j (plan.counts path j) n t))

-- or under
abbrev pub slips_under : FrameShape → Path → Plan → ℕ → ℕ → ℕ → Bool
slips_under s path plan n t j = slips plan.mode (has_any (underflow_at Slipping s (steps_of path) j (plan.counts path j) n t))

-- where this was read of a store and so many bits came, it is full
abbrev pub is_full : Readout → ℕ → Bool
is_full out came = nat_le (gone_with out.edits out.read + store_size) (put_with out.edits came)

-- or empty
abbrev pub is_empty : Readout → ℕ → Bool
is_empty out came = nat_le (put_with out.edits came) (gone_with out.edits out.read)

-- all that is gone from it came
abbrev pub HasCome : Readout → ℕ → Type 0
HasCome out came = gone_with out.edits out.read ≤ put_with out.edits came

-- and it holds at most so many bits
abbrev pub HoldsMost : Readout → ℕ → ℕ → Type 0
HoldsMost out came most = put_with out.edits came ≤ gone_with out.edits out.read + most

-- in slip mode, a bit of tributary j arrives in slot t of frame n at a full store
abbrev pub arrives_full : FrameShape → Path → Plan → ℕ → ℕ → ℕ → Bool
arrives_full s path plan n t j =
    slips plan.mode (arrives_at s (plan.counts path j n) t && is_full (read_to s path plan n t j) (came_before s (plan.counts path j) n t))

-- what was read of it after the slot's arrivals
abbrev pub arrived_to : FrameShape → Path → Plan → ℕ → ℕ → ℕ → Readout
arrived_to s path plan n t j = with_slip (arrives_full s path plan n t j) true (read_to s path plan n t j)

-- the same, where the first i tributaries have taken what arrives in the slot
abbrev pub arriving_to : FrameShape → Path → Plan → ℕ → ℕ → ℕ → ℕ → Readout
arriving_to s path plan n t i j = (if nat_lt j i then arrived_to s path plan n t j else read_to s path plan n t j)
