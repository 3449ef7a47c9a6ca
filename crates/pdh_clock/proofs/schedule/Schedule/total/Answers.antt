use Rattle.std.proofs.Common.{◌*◌, ◌≤◌, subst}
use Rattle.pdh_levels.specs.Levels.{len_at}
use Rattle.pdh_line.specs.Paths.{steps_of}
use Rattle.pdh_clock.specs.Contents.{Contents}
use Rattle.pdh_clock.proofs.Served.{total_most}
use Rattle.pdh_clock.proofs.schedule.Schedule.total.Goals as goal

pub returns-clause-most : goal.returns-clause-most
returns-clause-most c =
    subst (λ (s : Contents). c.total.result ≤ c.args.frames * len_at s.levels (steps_of c.args.node.now)) c.self.view_is
    (total_most c.self.inside.tree (steps_of c.args.node.now) c.table_of.result.now c.args.trib c.from.result c.args.frames c.total.result c.self.invariant
    c.table_of.ensures.frames c.from.ensures c.total.ensures)
