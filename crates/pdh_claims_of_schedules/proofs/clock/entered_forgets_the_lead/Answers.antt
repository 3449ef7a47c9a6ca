use Rattle.std.proofs.Common.{◌+◌, ◌*◌, ◌==◌, if◌then◌else◌, ℕ, List, [], sym, ◌∙◌, ap}
use Rattle.pdh_shape.specs.declared.place.Level.{Level}
use Rattle.pdh_line.specs.Nodes.{begun_at, entered_at}
use Rattle.pdh_line.specs.Progress.{arrived}
use Rattle.pdh_levels.specs.Levels.{numbers_of}
use Rattle.pdh_clock.specs.Begun.{frames_begun, top_len}
use Rattle.pdh_clock.specs.Contents.{counts}
use Rattle.pdh_claims_of_schedules.proofs.clock.entered_forgets_the_lead.Goals as goal

pub returns : goal.returns
unfolding frames_begun entered_at
returns c =
    let all = counts c.args.schedule.now.rows in
    let top = c.args.top_frames in
    let begun = c.begun.ensures ∙ ap (λ (levels : List Level). begun_at (numbers_of levels) all [] (top * top_len levels) []) c.requires.levels in
    c.entered.ensures ∙ ap (λ (levels : List Level). entered_at (numbers_of levels) all [] (top * top_len levels) c.args.leaf) c.requires.levels
    ∙ ap (λ (n : ℕ). (if n == 0 then 0 else 48 + arrived (all [] c.args.leaf) n)) (sym begun)
