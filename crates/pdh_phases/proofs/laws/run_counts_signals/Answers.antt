use Rattle.pdh_phases.proofs.Counting.{run_of-most, run_of-counts, run_of-before}
use Rattle.pdh_phases.proofs.laws.run_counts_signals.Goals as goal

pub returns-clause-most : goal.returns-clause-most
returns-clause-most g c bits phase = run_of-most g.S.Shape.shape bits phase

pub returns-clause-counts : goal.returns-clause-counts
returns-clause-counts g c bits p count = rw (← g.met.S.Shape.len_is) (run_of-counts g.S.Shape.shape bits p count g.met.S.Shape.is_frame.some_slots)

pub returns-clause-none : goal.returns-clause-none
returns-clause-none g c bits phase = rw (← g.met.S.Shape.len_is, ← g.met.S.Shape.signal_is) (run_of-before g.S.Shape.shape bits phase)
