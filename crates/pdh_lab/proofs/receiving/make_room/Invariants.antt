use Rattle.std.proofs.Common.{◌≡◌, ◌<◌, ℕ, true}
use Rattle.pdh_edge.specs.MemLists.{mem_inputs, mem_outputs, room_in}
use Rattle.pdh_lab.proofs.receiving.make_room.Given as goal

abbrev pub invariant-loop-leaf : goal.invariant-loop-leaf
invariant-loop-leaf l = record {
  inputs : mem_inputs l.port.inputs.items ≡ mem_inputs l.initial.port.inputs.items;
  outputs : mem_outputs l.port.outputs.items ≡ mem_outputs l.initial.port.outputs.items;
  faults : l.port.faults ≡ l.initial.port.faults;
  room : (k : ℕ) → k < l.leaf → l.bits < room_in l.port.outputs.items k;
  fresh : l.initial.port.fresh ≡ true → l.port.fresh ≡ true;
}
