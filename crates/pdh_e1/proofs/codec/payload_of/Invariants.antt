use Rattle.std.proofs.Common.{◌≡◌}
use Rattle.pdh_e1.specs.Multiframe.{frames_payload}
use Rattle.pdh_e1.proofs.codec.payload_of.Given as goal

abbrev pub invariant-loop-frame : goal.invariant-loop-frame
invariant-loop-frame l = l.payload.items ≡ frames_payload l.line l.frame
