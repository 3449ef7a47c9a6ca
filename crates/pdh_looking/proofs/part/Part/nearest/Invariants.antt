use Rattle.std.proofs.Common.{◌≡◌, [], take, map}
use Rattle.std.specs.Prelude.{fold, flat_map}
use Rattle.pdh_looking.specs.Words.{tops}
use Rattle.pdh_looking.specs.Looking.{lines_in}
use Rattle.pdh_looking.specs.Nearest.{near, ranked}
use Rattle.pdh_looking.proofs.part.Part.nearest.Given as goal

-- the tops so far
abbrev pub invariant-loop-top : goal.invariant-loop-top
invariant-loop-top l = l.list.items ≡ fold ranked [] (flat_map (λ top. map (near (lines_in l.self) top) l.orders) (take l.top-index tops))
