use Rattle.std.proofs.Common.{◌*◌}
use Rattle.pdh_e1.specs.Codec.{IsPackedUpTo}
use Rattle.pdh_e1.proofs.codec.pack.Given as goal

abbrev pub invariant-loop-number : goal.invariant-loop-number
invariant-loop-number l = IsPackedUpTo l.payload l.line.items (8 * l.number)
