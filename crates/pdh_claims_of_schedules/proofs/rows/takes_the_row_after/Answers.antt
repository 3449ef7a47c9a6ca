use Rattle.std.proofs.Common.{◌<◌, List, sym, ◌∙◌, ap, subst, lit<}
use Rattle.pdh_rows.specs.Rows.{NodeRow, node_frames, node_counts, node_frame_count}
use Rattle.pdh_claims_of_schedules.proofs.rows.takes_the_row_after.Goals as goal

pub count-requires-clause-scheduled : goal.count-requires-clause-scheduled
unfolding node_frames
count-requires-clause-scheduled c = subst (λ (rows : List NodeRow). 0 < node_frame_count rows) (sym c.requires.rows) (lit< tt)

pub returns : goal.returns
unfolding node_frames
returns c = c.count.ensures ∙ ap (λ (rows : List NodeRow). node_counts rows 0 0) c.requires.rows
