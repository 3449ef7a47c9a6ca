-- The schedule that a command reads: its text and its rows.
use Rattle.std.specs.Prelude.{ℕ, List, [], Bool, ◌&&◌, nat_le, is_ok, length, Result, Ok, Err}
use Rattle.std.specs.Result.{result_unwrap_or}
use Rattle.pdh_chain.specs.Chains.{levels_of}
use Rattle.pdh_chain.specs.declared.chain.Chain.{Chain}
use Rattle.pdh_clock.specs.declared.fault.ScheduleFault.{ScheduleFault}
use Rattle.pdh_clock.specs.Row.{Row}
use Rattle.pdh_clock.specs.Judged.{schedule_of}
use Rattle.pdh_clock.specs.Contents.{Contents, frame_count}
use Rattle.pdh_answers.specs.Names.{schedule_name}
use Rattle.pdh_answers.specs.Answer.{stop_of_fault}
use Rattle.pdh_answers.specs.declared.file.File.{File}
use Rattle.pdh_answers.specs.declared.answer.Stop.{Stop}
use Rattle.pdh_runner.specs.Operation.{Files, bytes_in, all_held}
use Rattle.pdh_shape.specs.OwnNumbers.{most_bytes}

-- the rows of a schedule's text, or why it is refused
abbrev pub rows_or_stop : Result (List Row) ScheduleFault → Result (List Row) Stop
rows_or_stop (Ok rows) = Ok rows
rows_or_stop (Err fault) = Err (stop_of_fault fault)

unfoldable pub rows_of : Chain → List ℕ → Result (List Row) Stop
rows_of chain text = rows_or_stop (schedule_of (levels_of chain) text)

-- the schedule of a chain with these rows
abbrev pub contents_of : Chain → List Row → Contents
contents_of chain rows = record { levels = levels_of chain; rows = rows }

-- the frames of the line, which are those of the top
abbrev pub frames_in : List Row → ℕ
frames_in rows = frame_count rows []

-- the schedule's rows, where its text has no fault
abbrev pub rows_in : Chain → Files → List Row
rows_in chain files = result_unwrap_or (rows_of chain (bytes_in files schedule_name)) []

-- its text is read where all inputs are held, and it isn't too long
abbrev pub is_text_due : List File → Files → Bool
is_text_due inputs files = is_ok (all_held inputs files) && nat_le (length (bytes_in files schedule_name)) most_bytes
