-- Puts into a port in memory that has room for them.
use Rattle.std.proofs.Common.{◌≡◌, inl, inr, ℕ, ◌<◌, arith}
use Rattle.std.specs.Prelude.{IsTrue}
use Rattle.pdh_edge.specs.declared.mem_port.MemPort.{MemPort}
use Rattle.pdh_edge.specs.MemLists.{mem_outputs, bits_held, room_of, StaysInRoom}

-- no call that puts bits failed where each list has fewer bits now than there was room for before
pub puts_in_room : (old new : MemPort) → StaysInRoom old.outputs.items new.outputs.items old.faults new.faults
    → ((k : ℕ) → IsTrue ((mem_outputs new.outputs.items).holds k) → bits_held (mem_outputs new.outputs.items) k < room_of old k) → new.faults ≡ old.faults
puts_in_room old new stays few = elim stays.counted [
  | inl same ↦ same
  | inr full ↦ absurd (omega (arith, full.2, stays.rooms full.0, few full.0 full.1))
]
