use Rattle.std.proofs.Common.{◌≤◌, List, sym, ◌∙◌, ap, subst, lit≤}
use Rattle.pdh_line.specs.Progress.{arrived}
use Rattle.pdh_rows.specs.Rows.{NodeRow, node_frames, node_counts, node_frame_count}
use Rattle.pdh_claims_of_schedules.proofs.rows.total_without_the_rows_before.Goals as goal

pub total-requires-clause-scheduled : goal.total-requires-clause-scheduled
unfolding node_frames
total-requires-clause-scheduled c = subst (λ (rows : List NodeRow). 2 ≤ node_frame_count rows) (sym c.requires.rows) (lit≤ tt)

pub returns : goal.returns
unfolding node_frames arrived
returns c = c.total.ensures ∙ ap (λ (rows : List NodeRow). arrived (node_counts rows 0) 2) c.requires.rows
