-- The text that a schedule is written as.
use Rattle.std.specs.Prelude.{◌≡◌, ℕ, suc, ◌≤◌, List, [], ◌∷◌, ◌++◌, length, decimal, Ok, IsSome, if◌then◌else◌}
use Rattle.std.specs.List.{flat_map}
use Rattle.std.specs.Str.{bytes_eq}
use Rattle.pdh_shape.specs.declared.place.Level.{Level}
use Rattle.pdh_line.specs.Paths.{path_text}
use Rattle.pdh_row_text.specs.Form.{Form, counts_form}
use Rattle.pdh_clock.specs.Row.{Row}
use Rattle.pdh_levels.specs.Levels.{level_at, nodes_in}
use Rattle.pdh_clock.specs.Contents.{Contents, frames_of, frame_count}
use Rattle.pdh_clock.specs.Judged.{schedule_of}
use Rattle.pdh_shape.specs.OwnNumbers.{most_bytes}

-- one more frame before rows that begin, or don't, with equal frames
abbrev pub with_frame : List ℕ → List ℕ → List Form → List Form
with_frame path frame [] = counts_form path 1 frame ∷ []
with_frame path frame (row ∷ rows) =
    if bytes_eq frame row.numbers then counts_form path (suc row.repeat) frame ∷ rows else counts_form path 1 frame ∷ row ∷ rows

-- the rows of frames of the node at a path, one for each longest run of equal frames
abbrev pub longest_rows : List ℕ → List (List ℕ) → List Form
longest_rows path [] = []
longest_rows path (frame ∷ frames) = with_frame path frame (longest_rows path frames)

-- the rows of all nodes in order, where the node at each path has these frames
abbrev pub rows_written : List Level → (List ℕ → List (List ℕ)) → List Form
rows_written levels frames = flat_map (λ path. longest_rows path (frames path)) (nodes_in levels)

-- numbers in decimal, each behind a space, 32
abbrev pub number_words : List ℕ → List ℕ
number_words numbers = flat_map (λ number. 32 ∷ decimal number) numbers

-- the line of a row of counts, with its line feed, 10
abbrev pub row_line : Form → List ℕ
row_line row = path_text row.path ++ number_words (row.repeat ∷ row.numbers) ++ 10 ∷ []

-- the text of a schedule in which the node at each path has these frames
unfoldable pub text_with : List Level → (List ℕ → List (List ℕ)) → List ℕ
text_with levels frames = flat_map row_line (rows_written levels frames)

abbrev pub text_of : Contents → List ℕ
text_of schedule = text_with schedule.levels (frames_of schedule.rows)

-- a schedule with the same frames at each node
abbrev pub IsSameSchedule : Contents → List Row → Type 0
IsSameSchedule schedule rows =
    (path : List ℕ) → IsSome (level_at schedule.levels path) → frames_of rows path ≡ frames_of schedule.rows path

-- the text reads back as the same schedule, where it isn't too long and no node has more frames than one row can say
abbrev pub ReadsBack : Contents → List ℕ → Type 0
ReadsBack schedule text =
    length text ≤ most_bytes
    → ((path : List ℕ) → IsSome (level_at schedule.levels path) → frame_count schedule.rows path ≤ 999999999)
    → (rows : List Row) × (schedule_of schedule.levels text ≡ Ok rows) × IsSameSchedule schedule rows
