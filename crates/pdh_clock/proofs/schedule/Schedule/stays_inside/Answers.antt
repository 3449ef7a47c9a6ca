use Rattle.std.proofs.Common.{◌≡◌, ◌-◌, ℕ, Option, ap, sym, subst}
use Rattle.std.specs.Option.{option_map_or}
use Rattle.pdh_shape.specs.declared.place.Level.{Level}
use Rattle.pdh_line.specs.Paths.{steps_of}
use Rattle.pdh_line.specs.Tolerance.{StaysInside}
use Rattle.pdh_levels.specs.Levels.{low_at}
use Rattle.pdh_clock.specs.Contents.{Contents, counts}
use Rattle.pdh_clock.specs.Stored.{rows_in}
use Rattle.pdh_clock.proofs.Served.{same_counts}
use Rattle.pdh_clock.proofs.schedule.Schedule.stays_inside.Goals as goal

pub returns : goal.returns
returns c = λ yes.
    let tree = c.self.inside.tree in
    let path = steps_of c.args.node.now in
    let frames : ℕ = c.args.end - c.args.first in
    let table = c.table_of-table.result.now in
    let low : c.level_of-low.result.low ≡ low_at tree.levels.items path = ap (λ (o : Option Level). option_map_or (λ (level : Level). level.low) o 0) (sym c.level_of-low.ensures) in
    let same = same_counts tree path table c.args.trib c.from.result c.table_of-table.ensures.frames c.from.ensures in
    subst (λ (s : Contents). StaysInside (low_at s.levels path) (counts s.rows path c.args.trib) c.args.first c.args.fill frames) c.self.view_is
    (subst (λ (n : ℕ). StaysInside n (counts (rows_in tree) path c.args.trib) c.args.first c.args.fill frames) low
    (subst (λ (f : ℕ → ℕ). StaysInside c.level_of-low.result.low f c.args.first c.args.fill frames) same (c.stays_inside.ensures yes)))
