-- The lists of a port in memory.
use Rattle.std.specs.Prelude.{◌≡◌, ◌⊎◌, ℕ, ◌+◌, ◌-◌, ◌<◌, ◌≤◌, Bool, true, IsTrue, nat_lt, List, length, take, drop, map, Option, Some, None, slice_get}
use Rattle.std.specs.List.{slice_index_or}
use Rattle.pdh_bits.specs.BitOut.{BoundedBits}
use Rattle.pdh_edge.specs.declared.mem_port.InputList.{InputList}
use Rattle.pdh_edge.specs.declared.mem_port.MemPort.{MemPort}
use Rattle.pdh_edge.specs.Counts.{one_more}
use Rattle.pdh_edge.specs.Ports.{Inputs, Outputs, Puts, for_leaf}

-- ---- lists of bits as they are given and taken

abbrev pub length_of : Option (List Bool) → ℕ
length_of None = 0
length_of (Some bits) = length bits

-- these lists give bits, leaf k's the k-th
abbrev pub inputs_of : List (List Bool) → Inputs
inputs_of lists = record { holds = λ k. nat_lt k (length lists); left = λ k. length_of (slice_get lists k); told = λ k. slice_get lists k }

-- these lists took bits
abbrev pub outputs_of : List (List Bool) → Outputs
outputs_of lists = record { holds = λ k. nat_lt k (length lists); told = λ k. slice_get lists k }

-- ---- the port's lists

-- what an input list still has
abbrev pub rest_of : InputList → List Bool
rest_of list = drop list.given list.bits.bits

-- the bits of a list
abbrev pub items_of : BoundedBits → List Bool
items_of list = list.bits

abbrev pub mem_inputs : List InputList → Inputs
mem_inputs lists = inputs_of (map rest_of lists)

abbrev pub mem_outputs : List BoundedBits → Outputs
mem_outputs lists = outputs_of (map items_of lists)

-- ---- the room of its lists

-- how many bits a list holds
abbrev pub bits_held : Outputs → ℕ → ℕ
bits_held outputs k = length_of (outputs.told k)

-- for how many bits in all list k of these has room
abbrev pub room_in : List BoundedBits → ℕ → ℕ
room_in lists k = slice_index_or (map (λ (list : BoundedBits). list.capacity) lists) k 0

-- for how many bits in all a port has room in list k
abbrev pub room_of : MemPort → ℕ → ℕ
room_of port k = room_in port.outputs.items k

-- list k has no room for a bit more
abbrev pub IsFull : List BoundedBits → ℕ → Type 0
IsFull lists k = room_in lists k ≤ bits_held (mem_outputs lists) k

-- a bit was put: the list had room, and no fault was counted
pub record PutInRoom (leaf : ℕ) (old : List BoundedBits) (faults now : ℕ) : Type 0 where
  pub room : bits_held (mem_outputs old) leaf < room_in old leaf
  pub uncounted : now ≡ faults

-- a bit was refused: the list had no room, all lists are as they were, and one fault was counted
pub record IsRefused (leaf : ℕ) (old new : List BoundedBits) (faults now : ℕ) : Type 0 where
  pub full : IsFull old leaf
  pub same : mem_outputs new ≡ mem_outputs old
  pub counted : now ≡ one_more faults

-- bits were put: the list had room for them all, and no fault was counted
pub record PutAllInRoom (leaf count : ℕ) (old : List BoundedBits) (faults now : ℕ) : Type 0 where
  pub room : bits_held (mem_outputs old) leaf + count ≤ room_in old leaf
  pub uncounted : now ≡ faults

-- for how many bits more list k of these has room
abbrev pub room_left : List BoundedBits → ℕ → ℕ
room_left lists k = room_in lists k - bits_held (mem_outputs lists) k

-- bits were refused: the list had no room for them all, took as many as it had room for, and one fault was counted
pub record IsCutShort (leaf : ℕ) (bits : List Bool) (old new : List BoundedBits) (faults now : ℕ) : Type 0 where
  pub few : room_in old leaf < bits_held (mem_outputs old) leaf + length bits
  pub part : Puts (for_leaf leaf (take (room_left old leaf) bits)) (mem_outputs old) (mem_outputs new)
  pub counted : now ≡ one_more faults

-- ---- what calls may change

-- The lists took bits at most: their rooms stay, none lost a bit, and the count of faults is as before, unless a list that is
-- held is full now.
pub record StaysInRoom (old new : List BoundedBits) (faults now : ℕ) : Type 0 where
  pub rooms : (k : ℕ) → room_in new k ≡ room_in old k
  pub grows : (k : ℕ) → bits_held (mem_outputs old) k ≤ bits_held (mem_outputs new) k
  pub counted : (now ≡ faults) ⊎ ((k : ℕ) × IsTrue ((mem_outputs new).holds k) × IsFull new k)

-- a count of faults didn't fall, and what was ready is so still
pub record KeepsReady (old_faults new_faults : ℕ) (old_ready new_ready : Bool) : Type 0 where
  pub later : old_faults ≤ new_faults
  pub ready : old_ready ≡ true → new_ready ≡ true
