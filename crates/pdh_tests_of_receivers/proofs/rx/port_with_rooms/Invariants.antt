use Rattle.std.proofs.Common.{◌≡◌}
use Rattle.pdh_edge.specs.MemLists.{mem_outputs}
use Rattle.pdh_tests_of_receivers.proofs.rx.port_with_rooms.Given as goal

-- no list has changed
abbrev pub invariant-loop-leaf : goal.invariant-loop-leaf
invariant-loop-leaf l = mem_outputs l.port.outputs.items ≡ mem_outputs l.initial.port.outputs.items
