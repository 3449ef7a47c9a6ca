use Rattle.std.proofs.Common.{◌<◌, arith}
use Rattle.pdh_phases.proofs.Confirming.{confirmed-signals, confirmed-part}
use Rattle.pdh_phases.proofs.laws.confirmed_by_signals.Goals as goal

pub returns-clause-whole : goal.returns-clause-whole
returns-clause-whole g c bits p =
    let some : 0 < g.S.Shape.shape.signal = omega (arith, c.requires, g.met.S.Shape.signal_is) in
    rw (← g.met.S.Shape.len_is) (confirmed-signals g.S.Shape.shape bits p g.met.S.Shape.has_signal some)

pub returns-clause-part : goal.returns-clause-part
returns-clause-part g c bits p = rw (← g.met.S.Shape.len_is) (confirmed-part g.S.Shape.shape bits p g.met.S.Shape.is_frame.some_slots)
