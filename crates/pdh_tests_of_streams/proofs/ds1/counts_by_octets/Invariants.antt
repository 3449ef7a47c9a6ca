use Rattle.std.proofs.Common.{Bool, List, IsTrue}
use Rattle.pdh_edge.specs.MemLists.{mem_outputs}
use Rattle.pdh_ds1.specs.View.{StandsFor}
use Rattle.pdh_tests_of_streams.proofs.ds1.counts_by_octets.Given as goal

abbrev pub invariant-loop-place : goal.invariant-loop-place
invariant-loop-place l = record {
  stands : (line : List Bool) × StandsFor l.align line;
  list : IsTrue ((mem_outputs l.port.outputs.items).holds 0);
}
