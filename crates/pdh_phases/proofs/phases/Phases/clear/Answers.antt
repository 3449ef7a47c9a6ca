use Rattle.std.proofs.Common.{Bool, List, [], sym, subst}
use Rattle.pdh_phases.specs.Keeping.{StandsFor, kept_of}
use Rattle.pdh_phases.proofs.Taking.{stands_empty}
use Rattle.pdh_phases.proofs.phases.Phases.clear.Goals as goal

pub returns : goal.returns
returns g c =
    subst (λ (last : List Bool). StandsFor g.S.Shape.shape (kept_of last 0 c.clear.new.self) []) (sym c.empty-self-inside.ensures)
    (stands_empty g.S.Shape.shape c.clear.new.self c.self.invariant.some c.clear.ensures.none)
