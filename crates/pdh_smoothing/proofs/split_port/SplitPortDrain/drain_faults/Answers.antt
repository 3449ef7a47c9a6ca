use Rattle.std.proofs.Common.{arith}
use Rattle.pdh_smoothing.proofs.split_port.SplitPortDrain.drain_faults.Goals as goal

pub returns : goal.returns
returns g c = omega (arith, c.saturating_add.ensures, c.drain_faults.ensures, c.drain_faults-2.ensures)
