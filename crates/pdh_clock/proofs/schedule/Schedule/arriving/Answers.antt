use Rattle.std.proofs.Common.{◌≡◌, ◌+◌, ◌-◌, ◌<◌, ◌≤◌, ℕ, Some, is_some, sym, ap, subst, arith}
use Rattle.pdh_line.specs.Paths.{steps_of}
use Rattle.pdh_levels.specs.Levels.{stores_at, level_at}
use Rattle.pdh_levels.proofs.LevelLaws.{level_is}
use Rattle.pdh_rows.specs.Rows.{node_counts}
use Rattle.pdh_rows.specs.Stored.{rows_of}
use Rattle.pdh_clock.specs.Begun.{taken}
use Rattle.pdh_clock.specs.Contents.{Contents, counts}
use Rattle.pdh_clock.proofs.Arriving.{AreScheduled, bits_scheduled, are_scheduled, came_before, arriving_is}
use Rattle.pdh_clock.proofs.schedule.Schedule.arriving.Goals as goal

some : (c : goal.After-table_of-table) → 0 < c.level_of-len.result.len
some c =
    let level = level_is c.self.inside.tree.levels.items (steps_of c.args.node.now) c.level_of-len.result c.self.invariant.levels_are.each c.level_of-len.ensures in
    omega (arith, level.shortest)

scheduled : (c : goal.After-table_of-table) (bits : ℕ) → bits ≤ c.args.to → AreScheduled c.table_of-table.result.now c.level_of-len.result.len bits
scheduled c bits upto =
    let path = steps_of c.args.node.now in
    let level = c.level_of-len.result in
    let all = bits_scheduled c.args.self.now _ path level c.args.to c.self.view_is c.level_of-len.ensures c.requires.scheduled in
    are_scheduled c.self.inside.tree path c.table_of-table.result.now level.len bits c.self.invariant (ap is_some c.level_of-len.ensures) (some c) c.table_of-table.ensures.frames
    (omega (arith, upto, all))

pub came_in-requires-clause-some : goal.came_in-requires-clause-some
came_in-requires-clause-some c = some c

pub came_in-requires-clause-enough : goal.came_in-requires-clause-enough
came_in-requires-clause-enough c = (scheduled c c.args.to (omega arith)).enough

pub came_in-requires-clause-few : goal.came_in-requires-clause-few
came_in-requires-clause-few c = (scheduled c c.args.to (omega arith)).few

pub came_in-requires-2-clause-some : goal.came_in-requires-2-clause-some
came_in-requires-2-clause-some c = some c.before

pub came_in-requires-2-clause-enough : goal.came_in-requires-2-clause-enough
came_in-requires-2-clause-enough c = (scheduled c.before c.args.from c.requires.later).enough

pub came_in-requires-2-clause-few : goal.came_in-requires-2-clause-few
came_in-requires-2-clause-few c = (scheduled c.before c.args.from c.requires.later).few

pub overflow_sub-result : goal.overflow_sub-result
overflow_sub-result c =
    came_before c.level_of-len.result.len (node_counts (rows_of c.table_of-table.result.now) c.args.trib) c.args.from c.args.to c.came_in-2.result c.came_in.result
    (some c.before.before) c.requires.later c.came_in-2.ensures.came c.came_in.ensures.came

pub returns : goal.returns
returns c = λ level at.
    let path = steps_of c.args.node.now in
    let trib : ℕ = c.args.trib in
    let here = subst (λ (s : Contents). level_at s.levels path ≡ Some level) (sym c.self.view_is) at in
    let known = subst (λ (s : Contents). trib < stores_at s.levels path) (sym c.self.view_is) c.requires.in_range in
    subst (λ (s : Contents). c.came_in.result - c.came_in-2.result + taken level trib (counts s.rows path trib) c.args.from ≡ taken level trib (counts s.rows path trib) c.args.to) c.self.view_is
    (arriving_is c.self.inside.tree path c.table_of-table.result.now trib c.args.from c.args.to c.came_in-2.result c.came_in.result level c.level_of-len.result here c.level_of-len.ensures
    (some c.before.before) known c.table_of-table.ensures.frames c.requires.later c.came_in-2.ensures.came c.came_in.ensures.came)
