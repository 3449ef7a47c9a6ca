-- What `inspect` and `show` come to.
use Rattle.std.specs.Prelude.{ℕ, suc, ◌*◌, nat_lt, Bool, List, Option, Some, None, Result, Ok, Err, length, take, drop, if◌then◌else◌, ◌++◌, codes, decimal}
use Rattle.pdh_bits.specs.Bits.{bits_of, bytes_of}
use Rattle.pdh_chain.specs.Chains.{frame_bytes_of, name_of as name_of_chain}
use Rattle.pdh_chain.specs.declared.chain.Chain.{Chain}
use Rattle.pdh_inspect.specs.Seen.{line_events, events_counted, line_bits_events}
use Rattle.pdh_show.specs.Shown.{shown}
use Rattle.pdh_answers.specs.Answer.{Answer, and_then}
use Rattle.pdh_runner.specs.Lines.{line_of}
use Rattle.pdh_recorded.specs.Demux.{frames_received}
use Rattle.pdh_answers.specs.declared.file.File.TheVariants.{Line}
use Rattle.pdh_answers.specs.declared.answer.Stop.{Stop}
use Rattle.pdh_answers.specs.declared.answer.Stop.TheVariants.{Short}
use Rattle.pdh_answers.specs.Names.{name_of, line_file, line_name}
use Rattle.pdh_answers.specs.declared.file.Bits.{Bits}
use Rattle.pdh_runner.specs.Operation.View.{EventsOfFile}
use Rattle.pdh_runner.specs.Operation.{Operation, no_names, one_name, no_bytes, all_in_run, due_at_outputs, Files}
use Rattle.pdh_answers.specs.declared.answer.Done.TheVariants.{Watched, Frame}
use Rattle.pdh_answers.specs.declared.answer.Done.{Done}

-- ---- `inspect`

-- what it says of so many frames and events, behind the lines of the monitors
abbrev pub inspect_says : Chain → ℕ → ℕ → Done
inspect_says chain frames events = Watched (codes "inspect " ++ name_of_chain chain ++ codes ": frames " ++ decimal frames ++ codes " events " ++ decimal events ++ codes "\n")

-- how many frames of a line are delivered, and how many events it has
unfoldable pub inspected : Chain → List ℕ → Answer
inspected chain line = Ok (inspect_says chain (frames_received chain line) (events_counted (line_events chain line)))

abbrev pub inspect_comes : Chain → Bits → Files → Answer
inspect_comes chain bits files = and_then (line_of (line_file bits) chain (files (name_of (line_file bits)))) (inspected chain)

-- `inspect` of a chain's line in this file
abbrev pub inspecting : Chain → Bits → Operation
inspecting chain bits = record {
  inputs = one_name (name_of (line_file bits));
  outputs = no_names;
  bytes = no_bytes;
  comes_to = inspect_comes chain bits;
  reads_in_run = all_in_run;
  is_due = due_at_outputs (inspect_comes chain bits);
  shows = Some (EventsOfFile (line_file bits) (line_bits_events chain));
  tells = None;
}

-- ---- `show`

-- how many bytes of a line stand before the frame after frame n
abbrev pub bytes_upto : Chain → ℕ → ℕ
bytes_upto chain n = suc n * frame_bytes_of chain

-- the line if it has that frame whole, or why it is refused
abbrev pub long_enough : Chain → ℕ → List ℕ → Result (List ℕ) Stop
long_enough chain n line = (if nat_lt (length line) (bytes_upto chain n) then Err (Short Line (8 * length line) (8 * bytes_upto chain n)) else Ok line)

-- the line that is held, or why it is refused before it is read
abbrev pub line_to_show : Chain → ℕ → Option (List ℕ) → Result (List ℕ) Stop
line_to_show chain n held = and_then (line_of Line chain held) (long_enough chain n)

-- the bits of frame n, whatever the alignment: those of the line up to its end, without those before it
abbrev pub frame_at : Chain → ℕ → List ℕ → List Bool
frame_at chain n line = drop (n * (8 * frame_bytes_of chain)) (take (8 * bytes_upto chain n) (bits_of line))

-- the text of that frame
unfoldable pub frame_shown : Chain → ℕ → List ℕ → Answer
frame_shown chain n line = Ok (Frame (shown chain n (bytes_of (frame_at chain n line))))

abbrev pub show_comes : Chain → ℕ → Files → Answer
show_comes chain n files = and_then (line_to_show chain n (files line_name)) (frame_shown chain n)

-- `show` of frame n of a chain's line
abbrev pub showing : Chain → ℕ → Operation
showing chain n = record {
  inputs = one_name line_name;
  outputs = no_names;
  bytes = no_bytes;
  comes_to = show_comes chain n;
  reads_in_run = all_in_run;
  is_due = due_at_outputs (show_comes chain n);
  shows = None;
  tells = None;
}
