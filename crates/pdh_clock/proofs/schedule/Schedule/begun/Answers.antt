use Rattle.std.proofs.Common.{IsNone, sym, subst}
use Rattle.pdh_clock.specs.Contents.{Contents}
use Rattle.pdh_clock.specs.Begun.{shortage}
use Rattle.pdh_clock.specs.Stored.{contents_of}
use Rattle.pdh_clock.proofs.Begins.{none_short}
use Rattle.pdh_clock.proofs.schedule.Schedule.begun.Goals as goal

pub begun-requires-clause-enough : goal.begun-requires-clause-enough
begun-requires-clause-enough c = none_short (contents_of c.self.inside.tree) c.args.top_frames _
    (subst (λ (s : Contents). IsNone (shortage s c.args.top_frames)) (sym c.self.view_is) c.requires.enough)
