use Rattle.std.proofs.Common.{◌≡◌, ℕ, List, ◌++◌}
use Rattle.std.specs.Slice.Iter.{chunks_rest, chunks_size}
use Rattle.pdh_bits.specs.Bits.{bits_of}
use Rattle.pdh_edge.specs.MemLists.{mem_outputs, room_of}
use Rattle.pdh_framed.specs.Taking.{Takes}
use Rattle.pdh_streams.proofs.delivering.deliver.Given as goal

-- the octets so far are taken
abbrev pub invariant-loop-octets : goal.invariant-loop-octets
invariant-loop-octets g l =
    (goal.iterator-loop-octets g).can_next l.octets-iterator
    × (goal.iterator-loop-octets g).is_finite l.octets-iterator
    × (chunks_size l.octets-iterator ≡ 4096)
    × ((mem_outputs l.port.outputs.items).holds ≡ (mem_outputs l.fn.port.outputs.items).holds)
    × (room_of l.port 0 ≡ room_of l.fn.port 0)
    × (l.port.faults ≡ 0)
    × (done : List ℕ) × (done ++ chunks_rest l.octets-iterator ≡ l.line)
    × (g.M.Machine.far l.machine ≡ g.M.Machine.far l.fn.machine)
    × Takes (g.M.Machine.far l.fn.machine) (g.M.Machine.stands l.fn.machine) (g.M.Machine.stands l.machine) (bits_of done) (mem_outputs l.fn.port.outputs.items) (mem_outputs l.port.outputs.items)
    × (l.bits.capacity ≡ 32768)
