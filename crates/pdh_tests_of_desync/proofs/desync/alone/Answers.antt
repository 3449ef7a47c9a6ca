use Rattle.std.proofs.Common.{inl, arith}
use Rattle.pdh_tests_of_desync.proofs.desync.alone.Goals as goal

pub open-requires-clause-apart : goal.open-requires-clause-apart
open-requires-clause-apart c = inl (omega arith)
