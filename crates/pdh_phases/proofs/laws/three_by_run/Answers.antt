use Rattle.pdh_phases.proofs.Confirming.{three-run}
use Rattle.pdh_phases.proofs.laws.three_by_run.Goals as goal

pub returns : goal.returns
returns g c bits p = rw (← g.met.S.Shape.len_is) (three-run g.S.Shape.shape bits p g.met.S.Shape.is_frame.some_slots)
