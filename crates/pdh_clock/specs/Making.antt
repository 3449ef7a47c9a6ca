-- The making of a schedule, node by node.
use Rattle.std.specs.Prelude.{◌≡◌, ℕ, suc, ◌<◌, ◌==◌, if◌then◌else◌, List, [], ◌∷◌, length, map}
use Rattle.std.specs.List.{range_with_len, slice_index_or}
use Rattle.pdh_rows.specs.declared.flow.Says.TheVariants.{Rates}
use Rattle.pdh_rows.specs.Rows.{NodeRow}
use Rattle.pdh_rows.specs.Stored.{said_row}
use Rattle.pdh_shape.specs.declared.place.Level.{Level}
use Rattle.pdh_clock.specs.declared.bias.Bias.{Bias}
use Rattle.pdh_clock.specs.declared.bias.Offset.{Offset}
use Rattle.pdh_clock.specs.declared.tree.Tree.{Tree}
use Rattle.pdh_levels.specs.Levels.{level_stores, nodes_in}
use Rattle.pdh_clock.specs.Row.{ratio_of}
use Rattle.pdh_clock.specs.Contents.{frames_of}
use Rattle.pdh_clock.specs.Made.{made, offset_of, scale_of, tributary_offset}
use Rattle.pdh_clock.specs.Stored.{rows_in}

-- the offset of the line of the node to which the path leads from one of the first of the levels, whose line has that offset
abbrev pub line_from : List Level → Bias → Offset → List ℕ → Offset
line_from levels bias line [] = line
line_from [] bias line (step ∷ path) = line
line_from (level ∷ below) bias line (step ∷ path) = line_from below bias (tributary_offset level bias (length below) line step) path

-- the same of the node at a path
abbrev pub line_at : List Level → Bias → List ℕ → Offset
line_at levels bias path = line_from levels bias (offset_of bias (length levels) 1) path

-- the row of a node above so many levels, by the offset of its line, where it has frames
abbrev pub made_rows : Level → Bias → ℕ → Offset → ℕ → List NodeRow
made_rows level bias height line frames =
    if frames == 0 then []
    else said_row (ratio_of level) frames (Rates (scale_of line level.ppm))
    (map (λ trib. scale_of (tributary_offset level bias height line (suc trib)) level.trib_ppm) (range_with_len 0 (level_stores level))) ∷ []

-- so many nodes have the frames of the made schedule
abbrev pub AreMade : Tree → Bias → ℕ → ℕ → Type 0
AreMade tree bias top_frames n = (k : ℕ) → k < n → k < length (nodes_in tree.levels.items)
    → frames_of (rows_in tree) (slice_index_or (nodes_in tree.levels.items) k [])
    ≡ made tree.levels.items bias top_frames (slice_index_or (nodes_in tree.levels.items) k [])
