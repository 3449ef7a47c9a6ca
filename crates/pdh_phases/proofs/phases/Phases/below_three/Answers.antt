use Rattle.std.proofs.Common.{◌≤◌, ◌+◌, subst, sym, arith}
use Rattle.pdh_phases.specs.Runs.{run_of}
use Rattle.pdh_phases.specs.Keeping.{Kept, StandsFor}
use Rattle.pdh_phases.proofs.Counting.{run_of-most}
use Rattle.pdh_phases.proofs.phases.Phases.below_three.Goals as goal

pub returns-clause-three : goal.returns-clause-three
returns-clause-three g c bits h lt =
    let s = g.S.Shape.shape in
    let phase = c.args.phase + c.below_three.result in
    let inside = subst (λ (k : Kept). StandsFor s k bits) (sym c.self.view_is) h in
    let three : 3 ≤ run_of s bits phase = c.below_three.ensures.three (run_of s bits phase) lt (inside.runs phase (omega (arith, lt, c.requires, g.met.S.Shape.len_is))) in
    omega (arith, three, run_of-most s bits phase)
