-- A multiplexer without stores, whose children are locked to it: a slot takes the next bit of the child that it reads. And
-- multiplexers of both kinds.
use Rattle.std.specs.Prelude.{ℕ, ◌+◌, ◌*◌, ◌/◌, ◌%◌, false, ◌==◌, nat_le, List, [], ◌∷◌, map, flat_map, slice_get, Option, None, if◌then◌else◌}
use Rattle.std.specs.List.{range_with_len}
use Rattle.pdh_shape.specs.declared.place.Path.{Path}
use Rattle.pdh_shape.specs.Frame.{FrameShape}
use Rattle.pdh_shape.specs.Tributary.{reads_from, reads_below}
use Rattle.pdh_line.specs.Sending.{given}
use Rattle.pdh_slips.specs.declared.slip.Slip.{Slip}
use Rattle.pdh_tx.specs.declared.tx.TxStop.{TxStop}
use Rattle.pdh_tx.specs.declared.tx.TxStop.TheVariants.{NoFrame}
use Rattle.pdh_tx.specs.Meaning.{Plan, Meaning}
use Rattle.pdh_tx.specs.Held.{first_some, some_if}
use Rattle.pdh_tx.specs.Node.{obstacle_of, slips_below, meaning_with, node_meaning}

-- how many bits of tributary j a node without stores has taken that has made all bits before slot t of frame n
abbrev pub locked_to : FrameShape → ℕ → ℕ → ℕ → ℕ
locked_to s n t j = n * s.low + reads_below s j false t

-- ---- what may stand in the way of its bit

-- the beginning of a frame, in slot 0: it isn't scheduled
abbrev pub locked_beginning : Path → Plan → ℕ → ℕ → Option TxStop
locked_beginning path plan n t = (if t == 0 then some_if (nat_le (plan.frames path) n) (NoFrame path) else None)

-- the read of tributary j in slot t of frame n, if the slot reads it: what stands in the way of the child's bit
abbrev pub locked_read : FrameShape → Plan → List Meaning → (ℕ → ℕ) → ℕ → ℕ → ℕ → Option TxStop
locked_read s plan ms size n t j = (if reads_from j false (s.role t) then obstacle_of (slice_get ms j) plan size (locked_to s n t j) else None)

-- all of slot t of frame n, in order
abbrev pub locked_steps : FrameShape → Path → Plan → List Meaning → (ℕ → ℕ) → ℕ → ℕ → List (Option TxStop)
locked_steps s path plan ms size n t = locked_beginning path plan n t ∷ map (locked_read s plan ms size n t) (range_with_len 0 s.tribs)

-- the first thing in the way of bit x, in step order
abbrev pub locked_obstacle : FrameShape → Path → List Meaning → Plan → (ℕ → ℕ) → ℕ → Option TxStop
locked_obstacle s path ms plan size x = first_some (locked_steps s path plan ms size (x / s.len) (x % s.len))

-- ---- the slips in making its bit

-- those in the read of tributary j in slot t of frame n, if the slot reads it
abbrev pub locked_read_slips : FrameShape → Plan → List Meaning → ℕ → ℕ → ℕ → List Slip
locked_read_slips s plan ms n t j = (if reads_from j false (s.role t) then slips_below (slice_get ms j) plan (locked_to s n t j) else [])

-- all of slot t of frame n
abbrev pub locked_slot_slips : FrameShape → Plan → List Meaning → ℕ → ℕ → List Slip
locked_slot_slips s plan ms n t = flat_map (locked_read_slips s plan ms n t) (range_with_len 0 s.tribs)

-- all of bit x
abbrev pub locked_slips : FrameShape → List Meaning → Plan → ℕ → List Slip
locked_slips s ms plan x = locked_slot_slips s plan ms (x / s.len) (x % s.len)

-- ---- a node as a whole

abbrev pub locked_meaning : FrameShape → Path → List Meaning → Meaning
locked_meaning s path ms = meaning_with s path ms (λ plan j x. given s j (plan.counts path j) x) (locked_obstacle s path ms) (locked_slips s ms)

-- a multiplexer of its shape's kind: without stores where the shape has no control bits
abbrev pub multiplexer_of : FrameShape → Path → List Meaning → Meaning
multiplexer_of s path ms = (if s.copies == 0 then locked_meaning s path ms else node_meaning s path ms)
