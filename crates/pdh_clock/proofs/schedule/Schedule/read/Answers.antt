use Rattle.std.proofs.Common.{All, subst}
use Rattle.pdh_clock.specs.Contents.{IsRowOf}
use Rattle.pdh_clock.specs.Stored.{rows_in}
use Rattle.pdh_clock.proofs.Served.{tree_sound}
use Rattle.pdh_clock.proofs.schedule.Schedule.read.Goals as goal

pub returns-clause-sound : goal.returns-clause-sound
returns-clause-sound c = subst (λ levels. All (IsRowOf levels) (rows_in c.in_ok-tree.tree)) c.in_ok-tree.ensures.levels
    (tree_sound c.in_ok-tree.tree c.in_ok-tree.ensures.tree)
