use Rattle.std.proofs.Common.{◌≤◌, subst}
use Rattle.pdh_levels.specs.Levels.{len_at}
use Rattle.pdh_line.specs.Paths.{steps_of}
use Rattle.pdh_clock.specs.Contents.{Contents}
use Rattle.pdh_clock.proofs.Served.{count_most}
use Rattle.pdh_clock.proofs.schedule.Schedule.count.Goals as goal

pub returns-clause-most : goal.returns-clause-most
returns-clause-most c =
    subst (λ (s : Contents). c.count.result ≤ len_at s.levels (steps_of c.args.node.now)) c.self.view_is
    (count_most c.self.inside.tree (steps_of c.args.node.now) c.table_of.result.now c.args.trib c.from.result c.args.frame c.count.result c.self.invariant
    c.table_of.ensures.frames c.from.ensures c.count.ensures)
