use Rattle.std.proofs.Common.{◌<◌, ◌≤◌, ℕ, IsSome, slice_index, refl, subst, sym, arith}
use Rattle.pdh_levels.specs.Levels.{len_at, level_at, stores_at, most_tributaries}
use Rattle.pdh_line.specs.Paths.{steps_of}
use Rattle.pdh_clock.specs.Contents.{Contents}
use Rattle.pdh_clock.proofs.Served.{count_most, stores_at_few}
use Rattle.pdh_clock.proofs.schedule.Schedule.counts.Goals as goal

pub counts_in-requires-clause-few : goal.counts_in-requires-clause-few
counts_in-requires-clause-few c =
    let some = subst (λ (s : Contents). IsSome (level_at s.levels (steps_of c.args.node.now))) (sym c.self.view_is) c.requires.node in
    omega (arith, c.table_of.ensures.tribs, stores_at_few c.self.inside.tree.levels.items (steps_of c.args.node.now) c.self.invariant.levels_are.each some)

pub returns-clause-few : goal.returns-clause-few
returns-clause-few c =
    let some = subst (λ (s : Contents). IsSome (level_at s.levels (steps_of c.args.node.now))) (sym c.self.view_is) c.requires.node in
    subst (λ (s : Contents). stores_at s.levels (steps_of c.args.node.now) ≤ most_tributaries) c.self.view_is
    (stores_at_few c.self.inside.tree.levels.items (steps_of c.args.node.now) c.self.invariant.levels_are.each some)

pub returns-clause-most : goal.returns-clause-most
returns-clause-most c =
    subst (λ (s : Contents). (trib : ℕ) → trib < stores_at s.levels (steps_of c.args.node.now) → slice_index c.counts_in.result trib ≤ len_at s.levels (steps_of c.args.node.now)) c.self.view_is
    (λ trib in_range.
    count_most c.self.inside.tree (steps_of c.args.node.now) c.table_of.result.now trib trib c.args.frame (slice_index c.counts_in.result trib) c.self.invariant
    c.table_of.ensures.frames refl (c.counts_in.ensures.counts trib (subst (λ (n : ℕ). trib < n) (sym c.table_of.ensures.tribs) in_range)))
