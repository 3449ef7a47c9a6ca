use Rattle.std.proofs.Common.{◌*◌}
use Rattle.pdh_e1.specs.Codec.{RightUpTo}
use Rattle.pdh_e1.proofs.codec.first_wrong.Given as goal

abbrev pub invariant-loop-number : goal.invariant-loop-number
invariant-loop-number l = RightUpTo l.line (8 * l.number)
