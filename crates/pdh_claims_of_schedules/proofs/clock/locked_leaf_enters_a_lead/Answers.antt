use Rattle.std.proofs.Common.{◌*◌, ℕ, List, [], sym, ◌∙◌, ap}
use Rattle.pdh_shape.specs.declared.place.Level.{Level}
use Rattle.pdh_line.specs.Nodes.{begun_at, entered_at}
use Rattle.pdh_levels.specs.Levels.{numbers_of}
use Rattle.pdh_clock.specs.Begun.{frames_begun, top_len}
use Rattle.pdh_clock.specs.Contents.{counts}
use Rattle.pdh_claims_of_schedules.proofs.clock.locked_leaf_enters_a_lead.Goals as goal

pub returns : goal.returns
unfolding frames_begun entered_at
returns c =
    let all = counts c.args.schedule.now.rows in
    let top = c.args.top_frames in
    let begun = c.begun.ensures ∙ ap (λ (levels : List Level). begun_at (numbers_of levels) all [] (top * top_len levels) []) c.requires.levels in
    c.entered.ensures ∙ ap (λ (levels : List Level). entered_at (numbers_of levels) all [] (top * top_len levels) c.args.leaf) c.requires.levels
    ∙ ap (λ (n : ℕ). n * c.args.level.low) (sym begun)
