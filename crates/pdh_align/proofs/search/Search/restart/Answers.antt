use Rattle.std.proofs.Common.{[], sym, subst}
use Rattle.pdh_align.specs.Searching.{sought_of, Searches}
use Rattle.pdh_align.proofs.SearchLaws.{begins}
use Rattle.pdh_align.proofs.search.Search.restart.Goals as goal
use Rattle.pdh_align.proofs.search.Search.restart.Goals.{in-Some, in_default}
use Rattle.std.proofs.Common.{Some, None}

pub returns : goal.returns
returns g c =
    let s = g.S.Shape.shape in
    let bits = c.args.held.now.bits in
    elim c.match-self.branch [
      | in-Some w ↦
          subst (λ a. Searches s (sought_of a.phases a.oldest) bits bits) (sym w.self-inside-is) (begins s (Some w.push_held.new.phases) bits (w.push_held.ensures [] w.clear.ensures))
      | in_default w ↦
          subst (λ a. Searches s (sought_of a.phases a.oldest) bits bits) (sym w.self-inside-is)
          (subst (λ p. Searches s (sought_of p 0) bits bits) (sym w.in_default.is) (begins s None bits tt))
    ]
