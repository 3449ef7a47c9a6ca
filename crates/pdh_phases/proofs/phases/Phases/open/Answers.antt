use Rattle.std.proofs.Common.{Bool, List, [], sym, subst, arith}
use Rattle.pdh_phases.specs.Keeping.{StandsFor, kept_of}
use Rattle.pdh_phases.proofs.Taking.{stands_empty}
use Rattle.pdh_phases.proofs.phases.Phases.open.Goals as goal

pub returns : goal.returns
returns g c =
    subst (λ (last : List Bool). StandsFor g.S.Shape.shape (kept_of last 0 c.in_ok-planes.planes) []) (sym c.empty.ensures)
    (stands_empty g.S.Shape.shape c.in_ok-planes.planes (omega (arith, c.requires, g.met.S.Shape.signal_is)) c.in_ok-planes.ensures.1)
