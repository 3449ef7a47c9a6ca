use Rattle.std.proofs.Common.{List, ◌∙◌, ap}
use Rattle.pdh_rows.specs.Outside.{first_outside}
use Rattle.pdh_rows.specs.Rows.{NodeRow, node_frames, node_counts, node_frame_count}
use Rattle.pdh_claims_of_schedules.proofs.rows.tolerance_at_row_ends_alone.Goals as goal

pub returns : goal.returns
unfolding node_frames first_outside
returns c = c.within_tolerance.ensures ∙ ap (λ (rows : List NodeRow). first_outside 205 (node_counts rows 0) (node_frame_count rows)) c.requires.rows
