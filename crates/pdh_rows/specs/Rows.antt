-- Rows of one node, and the frames that they say.
use Rattle.std.specs.Prelude.{ℕ, List, [], length, map, slice_index}
use Rattle.std.specs.List.{flat_map, range_with_len, slice_index_or}
use Rattle.pdh_rows.specs.declared.flow.Flow.{Flow}
use Rattle.pdh_rows.specs.Flows.{flow_count, each}

-- in the next `repeat` frames of the node the bits of each tributary arrive by its flow
pub record NodeRow : Type 0 where
  pub repeat : ℕ
  pub flows : List Flow

-- the counts of each of its frames
abbrev pub frames_in : NodeRow → List (List ℕ)
frames_in row = map (λ n. map (λ flow. flow_count flow n) row.flows) (range_with_len 0 row.repeat)

-- the counts of each frame of rows
unfoldable pub node_frames : List NodeRow → List (List ℕ)
node_frames rows = flat_map frames_in rows

-- how many frames there are
abbrev pub node_frame_count : List NodeRow → ℕ
node_frame_count rows = length (node_frames rows)

-- how many bits of a tributary, numbered from 0, arrive in each frame
abbrev pub node_counts : List NodeRow → ℕ → ℕ → ℕ
node_counts rows trib frame = slice_index (slice_index_or (node_frames rows) frame []) trib

-- the flow of a tributary; none where the row has none for it
abbrev pub row_flow : NodeRow → ℕ → Flow
row_flow row trib = slice_index_or row.flows trib (each 0)
