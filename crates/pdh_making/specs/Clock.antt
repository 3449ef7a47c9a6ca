-- What `clock check` and `clock make` come to.
use Rattle.std.specs.Prelude.{ℕ, Bool, ◌+◌, nat_lt, ◌==◌, List, [], ◌∷◌, count_by, Option, Some, None, Ok, Err, if◌then◌else◌, ◌++◌, codes, decimal}
use Rattle.std.specs.List.{range_with_len}
use Rattle.std.specs.Option.{option_map_or}
use Rattle.pdh_clock.specs.declared.bias.Bias.{Bias}
use Rattle.pdh_chain.specs.Chains.{levels_of, name_of as name_of_chain}
use Rattle.pdh_line.specs.Paths.{path_of, steps_of, path_text}
use Rattle.pdh_chain.specs.declared.chain.Chain.{Chain}
use Rattle.pdh_levels.specs.Levels.{nodes_in, stores_at, low_at}
use Rattle.pdh_clock.specs.Row.{Row}
use Rattle.pdh_clock.specs.Contents.{Contents, counts, frame_count}
use Rattle.pdh_rows.specs.Outside.{Run, first_outside}
use Rattle.pdh_clock.specs.Made.{made}
use Rattle.pdh_clock.specs.Written.{text_with}
use Rattle.pdh_making.specs.Schedules.{contents_of, rows_of, is_text_due}
use Rattle.pdh_answers.specs.Answer.{Answer, and_then}
use Rattle.pdh_answers.specs.declared.file.File.{File}
use Rattle.pdh_answers.specs.declared.file.File.TheVariants.{Schedule}
use Rattle.pdh_making.specs.declared.clock.OutOfTolerance.{OutOfTolerance}
use Rattle.pdh_answers.specs.declared.answer.Done.{Done}
use Rattle.pdh_answers.specs.declared.answer.Stop.TheVariants.{ManyFrames}
use Rattle.pdh_shape.specs.OwnNumbers.{most_frames}
use Rattle.pdh_answers.specs.Names.{schedule_name}
use Rattle.pdh_runner.specs.Operation.{Operation, all_held, no_names, one_name, no_bytes, none_in_run, reaches_outputs, due_at_outputs, Files, bytes_in}
use Rattle.pdh_answers.specs.declared.answer.Done.TheVariants.{Line}

-- ---- `clock check`

-- the file that it reads
abbrev pub check_inputs : List File
check_inputs = Schedule ∷ []

-- the first run of frames over which a tributary, numbered from 0, of the node at a path isn't within the tolerance, if
-- there is one
abbrev pub run_outside : Contents → List ℕ → ℕ → Option Run
run_outside clock path trib = first_outside (low_at clock.levels path) (counts clock.rows path trib) (frame_count clock.rows path)

-- how an answer names it
abbrev pub outside_at : List ℕ → ℕ → Run → OutOfTolerance
outside_at path trib run = record { node = path_of path; trib = trib + 1; run = record { from = run.from; to = run.to; sum = run.sum } }

-- the first of these tributaries of a node that isn't within the tolerance
abbrev pub outside_of : Contents → List ℕ → List ℕ → Option OutOfTolerance
outside_of clock path [] = None
outside_of clock path (trib ∷ tribs) = option_map_or (λ run. Some (outside_at path trib run)) (run_outside clock path trib) (outside_of clock path tribs)

-- the first of all tributaries of a node
unfoldable pub first_outside_of : Contents → List ℕ → Option OutOfTolerance
first_outside_of clock path = outside_of clock path (range_with_len 0 (stores_at clock.levels path))

-- what `clock check` says where all are within the tolerance
abbrev pub inside_says : Chain → Done
inside_says chain = Line (codes "clock " ++ name_of_chain chain ++ codes ": inside\n")

-- and of a tributary that isn't, and the run of frames that shows it: the frame behind the run is named
abbrev pub outside_says : Chain → OutOfTolerance → Done
outside_says chain out =
    Line (codes "clock " ++ name_of_chain chain ++ codes ": outside " ++ path_text (steps_of out.node) ++ codes " tributary " ++ decimal out.trib ++ codes " frames " ++ decimal out.run.from ++ codes " to " ++ decimal out.run.to
    ++ codes " sum " ++ decimal out.run.sum ++ codes "\n")

-- the first of the tributaries of these nodes that isn't within the tolerance, or that all are
abbrev pub first_of : Chain → Contents → List (List ℕ) → Done
first_of chain clock [] = inside_says chain
first_of chain clock (path ∷ paths) = option_map_or (outside_says chain) (first_outside_of clock path) (first_of chain clock paths)

-- the nodes in order, each before those below it
unfoldable pub checked : Chain → List Row → Done
checked chain rows = first_of chain (contents_of chain rows) (nodes_in (levels_of chain))

abbrev pub check_comes : Chain → Files → Answer
check_comes chain files = and_then (all_held check_inputs files) (λ _. and_then (rows_of chain (bytes_in files schedule_name)) (λ rows. Ok (checked chain rows)))

abbrev pub check_due : Chain → File → Files → Bool
check_due chain Schedule files = is_text_due check_inputs files
check_due chain file files = reaches_outputs (check_comes chain files)

abbrev pub checking : Chain → Operation
checking chain = record {
  inputs = one_name schedule_name;
  outputs = no_names;
  bytes = no_bytes;
  comes_to = check_comes chain;
  reads_in_run = none_in_run;
  is_due = check_due chain;
  shows = None;
  tells = None;
}

-- ---- `clock make`

-- the text of the schedule
unfoldable pub made_text : Chain → ℕ → Bias → List ℕ
made_text chain frames bias = text_with (levels_of chain) (made (levels_of chain) bias frames)

-- each row is a line of its own, which a line feed ends, 10
abbrev pub rows_in_text : List ℕ → ℕ
rows_in_text text = count_by (λ byte. byte == 10) text

-- what `clock make` says of so many rows
abbrev pub make_says : Chain → ℕ → Done
make_says chain rows = Line (codes "clock " ++ name_of_chain chain ++ codes ": rows " ++ decimal rows ++ codes "\n")

-- the schedule of so many frames, or too many frames
abbrev pub clock_made : Chain → ℕ → Bias → Answer
clock_made chain frames bias = if nat_lt most_frames frames then Err (ManyFrames frames) else Ok (make_says chain (rows_in_text (made_text chain frames bias)))

abbrev pub making : Chain → ℕ → Bias → Operation
making chain frames bias = record {
  inputs = no_names;
  outputs = one_name schedule_name;
  bytes = λ files _. made_text chain frames bias;
  comes_to = λ files. clock_made chain frames bias;
  reads_in_run = none_in_run;
  is_due = due_at_outputs (λ files. clock_made chain frames bias);
  shows = None;
  tells = None;
}
