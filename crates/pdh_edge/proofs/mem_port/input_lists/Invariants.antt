use Rattle.std.proofs.Common.{◌≡◌, ◌++◌, map}
use Rattle.pdh_edge.specs.MemLists.{rest_of, items_of}
use Rattle.pdh_edge.proofs.mem_port.input_lists.Given as goal

abbrev pub invariant-loop-bits : goal.invariant-loop-bits
invariant-loop-bits l = map rest_of l.inputs.items ++ map items_of l.bits-iterator.rest.items ≡ map items_of l.fn.lists.items
