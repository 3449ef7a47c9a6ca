use Rattle.std.proofs.Common.{◌+◌, ◌*◌}
use Rattle.pdh_e1.specs.Codec.{RightUpTo}
use Rattle.pdh_e1.proofs.codec.wrong_in.Given as goal

abbrev pub invariant-loop-place : goal.invariant-loop-place
invariant-loop-place l = RightUpTo l.line (8 * l.number + l.place)
