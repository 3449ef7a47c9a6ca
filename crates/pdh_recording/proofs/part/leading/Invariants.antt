-- the bytes so far are all this one
use Rattle.std.proofs.Common.{◌≡◌, ◌+◌, drop}
use Rattle.pdh_recording.specs.Parts.{leading}
use Rattle.pdh_recording.proofs.part.leading.Given as goal

abbrev pub invariant-loop-index : goal.invariant-loop-index
invariant-loop-index l = leading l.byte l.bytes ≡ l.index + leading l.byte (drop l.index l.bytes)
