use Rattle.std.proofs.Common.{arith}
use Rattle.pdh_smoothing.proofs.split_port.SplitPort.into_port.Goals as goal

pub returns-clause-counted : goal.returns-clause-counted
returns-clause-counted g c = omega (arith, c.drain_faults-counted.ensures)
