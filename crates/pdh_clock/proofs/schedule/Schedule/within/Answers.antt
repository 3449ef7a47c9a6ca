use Rattle.std.proofs.Common.{◌≡◌, ◌∙◌, Option, length, ap, sym, arith}
use Rattle.std.specs.Option.{option_map_or}
use Rattle.pdh_shape.specs.declared.place.Level.{Level}
use Rattle.pdh_rows.specs.Rows.{node_counts, node_frame_count}
use Rattle.pdh_rows.specs.Stored.{rows_of}
use Rattle.pdh_rows.specs.Outside.{first_outside, run_in}
use Rattle.pdh_line.specs.Paths.{steps_of}
use Rattle.pdh_levels.specs.Levels.{low_at, level_at}
use Rattle.pdh_levels.proofs.LevelLaws.{has_stores, stores_count}
use Rattle.pdh_clock.specs.Contents.{Contents, counts, frame_count}
use Rattle.pdh_clock.specs.Stored.{rows_in}
use Rattle.pdh_clock.proofs.Served.{same_counts}
use Rattle.pdh_clock.proofs.RatesLaws.{ok_within, within_ok, within_rates-ok}
use Rattle.pdh_clock.proofs.schedule.Schedule.within.Goals as goal

-- the answer says what the first run is
run : (c : goal.After-within_tolerance) → run_in c.within_tolerance.result
    ≡ first_outside (low_at c.args.self.now.levels (steps_of c.args.node.now)) (counts c.args.self.now.rows (steps_of c.args.node.now) c.args.trib)
    (frame_count c.args.self.now.rows (steps_of c.args.node.now))
run c =
    let tree = c.self.inside.tree in
    let path = steps_of c.args.node.now in
    let rows = rows_of c.table_of.result.now in
    let low : c.level_of-low.result.low ≡ low_at tree.levels.items path = ap (λ (o : Option Level). option_map_or (λ (level : Level). level.low) o 0) (sym c.level_of-low.ensures) in
    c.within_tolerance.ensures
    ∙ ap (λ n. first_outside n (node_counts rows c.from.result) (node_frame_count rows)) low
    ∙ ap (λ cs. first_outside (low_at tree.levels.items path) cs (node_frame_count rows)) (same_counts tree path c.table_of.result.now c.args.trib c.from.result c.table_of.ensures.frames c.from.ensures)
    ∙ ap (λ frames. first_outside (low_at tree.levels.items path) (counts (rows_in tree) path c.args.trib) (length frames)) c.table_of.ensures.frames
    ∙ ap (λ (s : Contents). first_outside (low_at s.levels path) (counts s.rows path c.args.trib) (frame_count s.rows path)) c.self.view_is

pub returns-clause-inside : goal.returns-clause-inside
returns-clause-inside c = λ shape same ok. ok_within shape _ _ _ c.within_tolerance.result (run c) same ok

pub returns-clause-outside : goal.returns-clause-outside
returns-clause-outside c = λ shape same within. within_ok shape _ _ _ c.within_tolerance.result (run c) same within

pub returns-clause-rates : goal.returns-clause-rates
returns-clause-rates c = λ level is rated within.
    within_rates-ok level (level_at c.args.self.now.levels (steps_of c.args.node.now)) _ _ c.within_tolerance.result (run c) is rated
    (has_stores level c.args.trib (omega (arith, c.requires, stores_count c.args.self.now.levels (steps_of c.args.node.now) level is))) within
