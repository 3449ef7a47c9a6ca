-- What `inspect e1` comes to.
use Rattle.std.specs.Prelude.{ℕ, List, Some, None, Ok, ◌++◌, codes, decimal}
use Rattle.pdh_bits.specs.Bits.{bits_of}
use Rattle.pdh_g706.specs.Tracking.{multiframes_in, counted}
use Rattle.pdh_g706.specs.Events.{e1_events}
use Rattle.pdh_inspect.specs.Seen.{framed_events, events_counted}
use Rattle.pdh_answers.specs.Answer.{Answer, and_then}
use Rattle.pdh_answers.specs.Names.{e1_name}
use Rattle.pdh_answers.specs.declared.answer.Done.{Done}
use Rattle.pdh_answers.specs.declared.answer.Done.TheVariants.{Watched}
use Rattle.pdh_answers.specs.declared.file.File.TheVariants.{E1Line}
use Rattle.pdh_runner.specs.Operation.View.{EventsOfFile}
use Rattle.pdh_runner.specs.Operation.{Operation, no_names, one_name, no_bytes, all_in_run, due_at_outputs, Files}
use Rattle.pdh_streams.specs.Codecs.{framed_of}
use Rattle.pdh_streams.specs.E1.{e1_codec}

-- what it says of so many multiframes and events, behind the lines of the monitors
abbrev pub inspect_e1_says : ℕ → ℕ → Done
inspect_e1_says multiframes events = Watched (codes "inspect e1: multiframes " ++ decimal multiframes ++ codes " events " ++ decimal events ++ codes "\n")

-- how many multiframes of a framed line are delivered, and how many events it has
unfoldable pub e1_inspected : List ℕ → Answer
e1_inspected line = Ok (inspect_e1_says (counted (multiframes_in (bits_of line))) (events_counted (framed_events line)))

abbrev pub inspect_e1_comes : Files → Answer
inspect_e1_comes files = and_then (framed_of e1_codec (files e1_name)) e1_inspected

-- `inspect e1`
abbrev pub inspecting_e1 : Operation
inspecting_e1 = record {
  inputs = one_name e1_name;
  outputs = no_names;
  bytes = no_bytes;
  comes_to = inspect_e1_comes;
  reads_in_run = all_in_run;
  is_due = due_at_outputs inspect_e1_comes;
  shows = Some (EventsOfFile E1Line e1_events);
  tells = None;
}
