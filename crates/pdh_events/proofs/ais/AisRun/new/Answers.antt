use Rattle.std.proofs.Common.{arith}
use Rattle.pdh_events.proofs.Runs.{ones_none}
use Rattle.pdh_events.proofs.ais.AisRun.new.Goals as goal

pub returns-clause-none : goal.returns-clause-none
returns-clause-none c = omega (arith, ones_none)
