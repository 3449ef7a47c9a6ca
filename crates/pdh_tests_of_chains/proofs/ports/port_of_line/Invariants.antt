use Rattle.std.proofs.Common.{◌≡◌, true}
use Rattle.pdh_edge.specs.MemLists.{mem_inputs, mem_outputs}
use Rattle.pdh_tests_of_chains.proofs.ports.port_of_line.Given as goal

-- no list has changed
abbrev pub invariant-loop-leaf : goal.invariant-loop-leaf
invariant-loop-leaf l = record {
  inputs : mem_inputs l.port.inputs.items ≡ mem_inputs l.initial.port.inputs.items;
  outputs : mem_outputs l.port.outputs.items ≡ mem_outputs l.initial.port.outputs.items;
  fresh : l.initial.port.fresh ≡ true → l.port.fresh ≡ true;
}
