use Rattle.std.proofs.Common.{Bool, List, IsTrue}
use Rattle.pdh_edge.specs.MemLists.{mem_outputs}
use Rattle.pdh_g706.specs.View.{StandsFor}
use Rattle.pdh_tests_of_streams.proofs.g706.lines_are_cut_at_each_octet.Given as goal

abbrev pub invariant-loop-place : goal.invariant-loop-place
invariant-loop-place g l = record {
  stands : (line : List Bool) × StandsFor l.align line;
  list : IsTrue ((mem_outputs l.port.outputs.items).holds 0);
}
