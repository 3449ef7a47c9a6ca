use Rattle.std.proofs.Common.{All, IsNone, sym, subst}
use Rattle.pdh_clock.specs.Begun.{shortage}
use Rattle.pdh_clock.specs.Contents.{IsRowOf}
use Rattle.pdh_clock.specs.Stored.{rows_in}
use Rattle.pdh_clock.proofs.Served.{tree_sound}
use Rattle.pdh_clock.proofs.MadeNodes.{IsMade, is_made}
use Rattle.pdh_clock.proofs.schedule.Schedule.from_ppm.Goals as goal

known : (c : goal.In_ok-tree) → IsMade c.args.levels.now c.args.bias c.args.frames (rows_in c.in_ok-tree.tree)
known c = is_made c.in_ok-tree.tree c.args.levels.now c.args.bias c.args.frames c.in_ok-tree.ensures.tree c.in_ok-tree.ensures.levels c.requires.rated
    c.in_ok-tree.ensures.made

pub returns-clause-frames : goal.returns-clause-frames
returns-clause-frames c = (known c).frames_is

pub returns-clause-sound : goal.returns-clause-sound
returns-clause-sound c = subst (λ levels. All (IsRowOf levels) (rows_in c.in_ok-tree.tree)) c.in_ok-tree.ensures.levels
    (tree_sound c.in_ok-tree.tree c.in_ok-tree.ensures.tree)

pub returns-clause-top : goal.returns-clause-top
returns-clause-top c = (known c).top

pub returns-clause-enough : goal.returns-clause-enough
returns-clause-enough c = subst (λ levels. IsNone (shortage (record { levels = levels; rows = rows_in c.in_ok-tree.tree }) c.args.frames)) (sym c.in_ok-tree.ensures.levels) (known c).enough

pub returns-clause-within : goal.returns-clause-within
returns-clause-within c = (known c).within
