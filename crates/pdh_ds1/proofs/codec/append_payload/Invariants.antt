use Rattle.std.proofs.Common.{◌≡◌, ◌+◌, ◌*◌, ◌++◌, length}
use Rattle.pdh_ds1.specs.Packing.{line_payload}
use Rattle.pdh_ds1.proofs.codec.append_payload.Given as goal

-- the payload of the frames so far
abbrev pub invariant-loop-frame : goal.invariant-loop-frame
invariant-loop-frame l = record {
  payload : l.payload ≡ record l.initial.payload { bits = l.initial.payload.bits ++ line_payload l.line.bits l.frame };
  long : length l.payload.bits ≡ length l.initial.payload.bits + 192 * l.frame;
}
