use Rattle.std.proofs.Common.{◌≡◌, true}
use Rattle.std.specs.List.{range_with_len, list_all}
use Rattle.pdh_e1_judging.proofs.SignalTests.{signal_test}
use Rattle.pdh_e1_judging.proofs.multiframes.has_frame_signals.Given as goal

-- the signals so far are right
abbrev pub invariant-loop-pair : goal.invariant-loop-pair
invariant-loop-pair l = list_all (signal_test l.line.bits l.start) (range_with_len 0 l.pair) ≡ true
