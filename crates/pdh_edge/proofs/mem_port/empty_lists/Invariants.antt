use Rattle.std.proofs.Common.{◌≡◌, [], map, replicate}
use Rattle.pdh_edge.specs.MemLists.{items_of}
use Rattle.pdh_edge.proofs.mem_port.empty_lists.Given as goal

abbrev pub invariant-loop-list : goal.invariant-loop-list
invariant-loop-list l = map items_of l.outputs.items ≡ replicate l._list []
