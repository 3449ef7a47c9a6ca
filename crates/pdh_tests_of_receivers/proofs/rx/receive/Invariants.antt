use Rattle.std.proofs.Common.{◌≡◌, Bool, List}
use Rattle.pdh_rx.specs.Meaning.{HoldsAll}
use Rattle.pdh_tests_of_receivers.proofs.rx.receive.Given as goal

abbrev pub invariant-loop-bit : goal.invariant-loop-bit
invariant-loop-bit g l = record {
  stands : (line : List Bool) × g.R.Rx.stands l.rx line;
  lists : HoldsAll (g.R.Rx.meaning l.rx).leaves (g.D.Drain.outputs l.drain);
  held : (g.D.Drain.outputs l.drain).holds ≡ (g.D.Drain.outputs l.fn.drain).holds;
}
