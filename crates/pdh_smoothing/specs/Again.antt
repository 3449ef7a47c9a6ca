-- The schedule by which a multiplexer would make a received line again, of what far stores give out of it.
use Rattle.std.specs.Prelude.{◌≡◌, ℕ, ◌-◌, ◌<◌, IsTrue, Bool, false, List, [], length, map, unwrap_or}
use Rattle.std.specs.List.{flat_map, range_with_len, slice_index_or}
use Rattle.pdh_shape.specs.Frame.{FrameShape}
use Rattle.pdh_line.specs.Sending.{carried}
use Rattle.pdh_edge.specs.declared.mem_port.MemPort.{MemPort}
use Rattle.pdh_edge.specs.MemLists.{mem_outputs}
use Rattle.pdh_edge.specs.Ports.{Outputs}
use Rattle.pdh_clock.specs.Written.{longest_rows, row_line}
use Rattle.pdh_desync.specs.FarStore.{FarPiece, pieces_of, reads}

-- how many bits of each tributary are read in piece n
abbrev pub reads_in : FrameShape → List FarPiece → ℕ → List ℕ
reads_in s pieces n = map (λ j. reads s j pieces n) (range_with_len 0 s.tribs)

-- the frames of that schedule: each has the reads of a piece, from the second piece on
abbrev pub frames_again : FrameShape → List FarPiece → List (List ℕ)
frames_again s pieces = map (reads_in s pieces) (range_with_len 1 (length pieces - 1))

-- the text of a schedule in which the top has these frames: a row for each longest run of equal ones
abbrev pub rows_text : List (List ℕ) → List ℕ
rows_text frames = flat_map row_line (longest_rows [] frames)

-- the text of that schedule
unfoldable pub schedule_again : FrameShape → List Bool → List ℕ
schedule_again s line = rows_text (frames_again s (pieces_of s line))

-- ---- of marks, a list of them for each tributary

-- the lists of a port in memory
abbrev pub lists_in : MemPort → Outputs
lists_in port = mem_outputs port.outputs.items

-- the bits of list j
abbrev pub list_of : Outputs → ℕ → List Bool
list_of lists j = unwrap_or (lists.told j) []

-- how many pieces are marked
abbrev pub pieces_marked : Outputs → ℕ
pieces_marked lists = length (list_of lists 0)

-- each tributary's list has a mark for each piece
pub record AreMarks (s : FrameShape) (lists : Outputs) : Type 0 where
  pub held : (j : ℕ) → j < s.tribs → IsTrue (lists.holds j)
  pub long : (j : ℕ) → j < s.tribs → length (list_of lists j) ≡ pieces_marked lists

-- how many bits of a tributary are read in piece n by its mark, and of each
abbrev pub count_marked : FrameShape → Outputs → ℕ → ℕ → ℕ
count_marked s lists n j = carried s (slice_index_or (list_of lists j) n false)

abbrev pub counts_marked : FrameShape → Outputs → ℕ → List ℕ
counts_marked s lists n = map (count_marked s lists n) (range_with_len 0 s.tribs)

-- in the pieces from one on
abbrev pub frames_marked : FrameShape → Outputs → ℕ → List (List ℕ)
frames_marked s lists first = map (counts_marked s lists) (range_with_len first (pieces_marked lists - first))
