use Rattle.std.proofs.Common.{◌<◌, arith}
use Rattle.pdh_phases.proofs.Confirming.{confirmed-run}
use Rattle.pdh_phases.proofs.laws.confirmed_by_run.Goals as goal

pub returns : goal.returns
returns g c bits p =
    let some : 0 < g.S.Shape.shape.signal = omega (arith, c.requires, g.met.S.Shape.signal_is) in
    rw (← g.met.S.Shape.len_is, ← g.met.S.Shape.signal_is) (confirmed-run g.S.Shape.shape bits p g.met.S.Shape.is_frame g.met.S.Shape.has_signal some)
