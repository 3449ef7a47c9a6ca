use Rattle.std.proofs.Common.{subst, sym, arith}
use Rattle.pdh_phases.specs.Runs.{run_of}
use Rattle.pdh_phases.specs.Keeping.{Kept, StandsFor}
use Rattle.pdh_phases.proofs.Counting.{run_of-most}
use Rattle.pdh_phases.proofs.phases.Phases.run_at.Goals as goal

pub returns : goal.returns
returns g c bits h =
    let s = g.S.Shape.shape in
    let inside = subst (λ (k : Kept). StandsFor s k bits) (sym c.self.view_is) h in
    c.run_at.ensures (run_of s bits c.args.phase) (run_of-most s bits c.args.phase) (inside.runs c.args.phase (omega (arith, c.requires, g.met.S.Shape.len_is)))
