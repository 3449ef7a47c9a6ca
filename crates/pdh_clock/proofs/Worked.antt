-- The definitions on worked texts.
use Rattle.std.proofs.Common.{◌≡◌, ℕ, List, [], ◌∷◌, ◌++◌, length, map, take, Some, None, Result, Ok, Err, refl}
use Rattle.std.specs.Prelude.{codes, replicate}
use Rattle.pdh_levels.proofs.Worked.{e2, e3, e4, ds3_locked, ds2_locked}
use Rattle.pdh_clock.specs.declared.fault.ScheduleFault.{ScheduleFault}
use Rattle.pdh_clock.specs.declared.fault.ScheduleFault.TheVariants.{BadRow, UnknownNode, CountOver}
use Rattle.pdh_line.specs.Progress.{arrived}
use Rattle.pdh_row_text.specs.Text.{lines_of, words_of, number_of, path_of}
use Rattle.pdh_rows.specs.Flows.{each}
use Rattle.pdh_clock.specs.Row.{Row}
use Rattle.pdh_line.specs.Nodes.{entered_at}
use Rattle.pdh_levels.specs.Levels.{nodes_in, size_of, place_of}
use Rattle.pdh_clock.specs.Judged.{schedule_of}
use Rattle.pdh_clock.specs.Contents.{Contents, by_nodes, frames_of, frame_count, counts}
use Rattle.pdh_clock.specs.Begun.{bits_made, bits_entered, frames_begun, shortage}

-- a line and its line feed
abbrev line : List ℕ → List ℕ
line bytes = bytes ++ 10 ∷ []

abbrev read : List ℕ → Result (List Row) ScheduleFault
read text = schedule_of (e2 ∷ []) text

-- a row whose frames have the same counts
abbrev row_at : List ℕ → ℕ → List ℕ → Row
row_at path repeat counts = record { path = path; repeat = repeat; flows = map each counts }

-- one of the top
abbrev row : ℕ → List ℕ → Row
row repeat counts = row_at [] repeat counts

-- ---- lines, words, numbers and paths

no_line : lines_of [] ≡ []
no_line = refl

last_line_feed_or_not : lines_of (line (codes "a") ++ line [] ++ line (codes "bc"))
    ≡ lines_of (line (codes "a") ++ line [] ++ codes "bc")
last_line_feed_or_not = refl

three_lines : lines_of (line (codes "a") ++ line [] ++ codes "bc") ≡ codes "a" ∷ [] ∷ codes "bc" ∷ []
three_lines = refl

words_between_spaces : words_of (codes "/  12 ") ≡ codes "/" ∷ [] ∷ codes "12" ∷ [] ∷ []
words_between_spaces = refl

numbers : (number_of (codes "0") ≡ Some 0) × (number_of (codes "206") ≡ Some 206) × (number_of (codes "999999999") ≡ Some 999999999)
numbers = (refl, refl, refl)

no_numbers : (number_of [] ≡ None) × (number_of (codes "03") ≡ None) × (number_of (codes "1000000000") ≡ None) ×
    (number_of (codes "+1") ≡ None)
no_numbers = (refl, refl, refl, refl)

paths : (path_of (codes "/") ≡ Some []) × (path_of (codes "/4") ≡ Some (4 ∷ [])) × (path_of (codes "/2/9") ≡ Some (2 ∷ 9 ∷ []))
paths = (refl, refl, refl)

no_paths : (path_of [] ≡ None) × (path_of (codes "1") ≡ None) × (path_of (codes "/0") ≡ None) × (path_of (codes "/1/") ≡ None)
no_paths = (refl, refl, refl, refl)

-- ---- texts and their rows

one_row : read (codes "/ 3 206 206 206 206") ≡ Ok (row 3 (206 ∷ 206 ∷ 206 ∷ 206 ∷ []) ∷ [])
unfolding schedule_of
one_row = refl

passed_over : read (line (codes "# two rows") ++ line [] ++ line (codes "/ 3 206 205 204 203") ++ line
    (codes "#") ++ codes "/ 1 0 1 2 848")
    ≡ Ok (row 3 (206 ∷ 205 ∷ 204 ∷ 203 ∷ []) ∷ row 1 (0 ∷ 1 ∷ 2 ∷ 848 ∷ []) ∷ [])
unfolding schedule_of
passed_over = refl

-- ---- faults

counted_lines : read (line (codes "#") ++ line [] ++ codes "/ 0 206 206 206 206") ≡ Err (BadRow 3)
unfolding schedule_of
counted_lines = refl

form_before_node : read (codes "/1 x 206 206 206 206") ≡ Err (BadRow 1)
unfolding schedule_of
form_before_node = refl

node_before_number_of_counts : read (codes "/1 3 206") ≡ Err (UnknownNode 1)
unfolding schedule_of
node_before_number_of_counts = refl

number_of_counts_before_count : read (codes "/ 1 900 206 206") ≡ Err (BadRow 1)
unfolding schedule_of
number_of_counts_before_count = refl

first_count_over : read (codes "/ 1 206 900 849 206") ≡ Err (CountOver 1 900 848)
unfolding schedule_of
first_count_over = refl

one_over : read (codes "/ 1 849 206 206 206") ≡ Err (CountOver 1 849 848)
unfolding schedule_of
one_over = refl

first_fault : read (line (codes "/ 1 206 206 206 206") ++ line (codes "/7 1 1 1 1 1") ++ codes "x") ≡ Err (UnknownNode 2)
unfolding schedule_of
first_fault = refl

blanks : (read (codes "/ 3  206 206 206 206") ≡ Err (BadRow 1)) × (read (codes "/ 3 206 206 206 206 ") ≡ Err (BadRow 1)) ×
    (read (line (13 ∷ [])) ≡ Err (BadRow 1))
unfolding schedule_of
blanks = (refl, refl, refl)

-- ---- what a schedule gives a node

-- two rows of the top and one of another node
abbrev rows : List Row
rows = row 2 (206 ∷ 205 ∷ []) ∷ row_at (1 ∷ []) 5 (7 ∷ 7 ∷ []) ∷ row 1 (3 ∷ 4 ∷ []) ∷ []

joined_rows : frames_of rows [] ≡ (206 ∷ 205 ∷ []) ∷ (206 ∷ 205 ∷ []) ∷ (3 ∷ 4 ∷ []) ∷ []
unfolding frames_of
joined_rows = refl

rows_of_a_node : (frame_count rows [] ≡ 3) × (frame_count rows (1 ∷ []) ≡ 5) × (frame_count rows (2 ∷ []) ≡ 0)
unfolding frames_of
rows_of_a_node = (refl, refl, refl)

counts_of_a_node : (counts rows [] 0 1 ≡ 206) × (counts rows [] 1 2 ≡ 4) × (counts rows (1 ∷ []) 1 4 ≡ 7)
unfolding frames_of
counts_of_a_node = (refl, refl, refl)

totals : arrived (counts rows [] 1) 3 ≡ 414
unfolding arrived frames_of
totals = refl

nodes_in_order : nodes_in (e3 ∷ e2 ∷ []) ≡ [] ∷ (1 ∷ []) ∷ (2 ∷ []) ∷ (3 ∷ []) ∷ (4 ∷ []) ∷ []
nodes_in_order = refl

nodes_of_three_levels : (length (nodes_in (e4 ∷ e3 ∷ e2 ∷ [])) ≡ 21)
    × (take 7 (nodes_in (e4 ∷ e3 ∷ e2 ∷ [])) ≡ [] ∷ (1 ∷ []) ∷ (1 ∷ 1 ∷ []) ∷ (1 ∷ 2 ∷ []) ∷ (1 ∷ 3 ∷ []) ∷ (1 ∷ 4 ∷ []) ∷ (2 ∷ []) ∷ [])
nodes_of_three_levels = (refl, refl)

places_of_nodes : (size_of (e4 ∷ e3 ∷ e2 ∷ []) ≡ 21) × (place_of (e4 ∷ e3 ∷ e2 ∷ []) (2 ∷ []) ≡ 6) × (place_of (e4 ∷ e3 ∷ e2 ∷ []) (4 ∷ 4 ∷ []) ≡ 20)
places_of_nodes = (refl, refl, refl)

-- the rows of the top are joined, and those of its first tributary follow
rows_by_nodes : by_nodes (e3 ∷ e2 ∷ []) rows
    ≡ row 2 (206 ∷ 205 ∷ []) ∷ row 1 (3 ∷ 4 ∷ []) ∷ row_at (1 ∷ []) 5 (7 ∷ 7 ∷ []) ∷ []
rows_by_nodes = refl

-- three frames of a 34368 kbit/s top that brings 377 bits a frame begin two frames of its first tributary: 48 + 3 · 377 = 1179 bits
abbrev below : Contents
below = record { levels = e3 ∷ e2 ∷ []; rows = row 3 (377 ∷ 377 ∷ 377 ∷ 377 ∷ []) ∷ [] }

begun_below : (frames_begun below 3 [] ≡ 3) × (frames_begun below 3 (1 ∷ []) ≡ 2) × (frames_begun below 0 (1 ∷ []) ≡ 0)
unfolding arrived frames_of frames_begun
begun_below = (refl, refl, refl)

first_shortage : shortage below 3 ≡ Some (record { path = 1 ∷ []; have = 0; need = 2 })
unfolding arrived frames_of frames_begun shortage
first_shortage = refl

-- ---- a top without stores

abbrev read_locked : List ℕ → Result (List Row) ScheduleFault
read_locked text = schedule_of (ds3_locked ∷ ds2_locked ∷ []) text

-- a row of the top has no counts, and the node is judged first
locked_rows : (read_locked (codes "/ 17") ≡ Ok (row 17 [] ∷ [])) × (read_locked (codes "/ 17 671") ≡ Err (BadRow 1)) × (read_locked (codes "/8 1 1") ≡ Err (UnknownNode 1))
    × (read_locked (codes "/1 1 1177 1 1 1") ≡ Err (CountOver 1 1177 1176))
unfolding schedule_of
locked_rows = (refl, refl, refl, refl)

-- seventeen frames of the top, and ten of a node below it
abbrev locked_top : Contents
locked_top = record { levels = ds3_locked ∷ ds2_locked ∷ []; rows = row 17 [] ∷ row_at (1 ∷ []) 10 (replicate 4 288) ∷ [] }

-- the node makes 17 · 671 = 11407 bits, which are 9 frames and 823 bits of a tenth one
bits_below_locked : (bits_made locked_top 17 (1 ∷ []) ≡ 11407) × (frames_begun locked_top 17 (1 ∷ []) ≡ 10) × (frames_begun locked_top 17 (2 ∷ []) ≡ 10)
    × (frames_begun locked_top 0 (1 ∷ []) ≡ 0)
unfolding arrived frames_of frames_begun
bits_below_locked = (refl, refl, refl, refl)

-- so that a leaf enters 48 + 10 · 288 = 2928 bits
entered_below_locked : (bits_entered locked_top 17 0 ≡ 2928) × (bits_entered locked_top 17 3 ≡ 2928) × (bits_entered locked_top 0 0 ≡ 0)
unfolding arrived frames_of entered_at
entered_below_locked = (refl, refl, refl)

-- the node that has no row is short
locked_shortage : shortage locked_top 17 ≡ Some (record { path = 2 ∷ []; have = 0; need = 10 })
unfolding arrived frames_of frames_begun shortage
locked_shortage = refl
