-- What `duplex` says, comes to and shows.
use Rattle.std.specs.Prelude.{ℕ, zero, suc, ◌*◌, nat_lt, nat_le, ◌&&◌, if◌then◌else◌, Bool, false, is_ok, List, [], ◌∷◌, ◌++◌, length, codes, decimal, Some, None, Result, Ok, Err}
use Rattle.std.specs.Result.{result_unwrap_or}
use Rattle.pdh_shape.specs.OwnNumbers.{most_drilled}
use Rattle.pdh_nesting.specs.Chains.{top_len}
use Rattle.pdh_watch.specs.declared.event.Event.{Event}
use Rattle.pdh_script.specs.Scripts.{Row}
use Rattle.pdh_script.specs.ScriptText.{script_of, most_script_bytes}
use Rattle.pdh_chain.specs.Chains.{shapes_of, name_of as name_of_chain}
use Rattle.pdh_chain.specs.declared.chain.Chain.{Chain}
use Rattle.pdh_duplex.specs.Session.{Setting, setting_with, ends_of, events_of, session_of}
use Rattle.pdh_duplex.specs.declared.session.Session.{Session}
use Rattle.pdh_answers.specs.Names.{name_of, west_name, east_name}
use Rattle.pdh_answers.specs.Answer.{Answer, script_or_stop, and_then}
use Rattle.pdh_answers.specs.declared.answer.Done.{Done}
use Rattle.pdh_answers.specs.declared.answer.Done.TheVariants.{Watched}
use Rattle.pdh_answers.specs.declared.answer.Stop.{Stop}
use Rattle.pdh_answers.specs.declared.answer.Stop.TheVariants.{ManyFrames}
use Rattle.pdh_answers.specs.declared.file.File.{File}
use Rattle.pdh_answers.specs.declared.file.File.TheVariants.{West, East}
use Rattle.pdh_runner.specs.Operation.{Operation, Files, bytes_in, all_held, no_names, no_bytes, none_in_run}
use Rattle.pdh_runner.specs.Operation.View.{EventsOfAll}

-- ---- what it says

-- a count of each end, west's first
abbrev pub pair_text : List ℕ → ℕ → ℕ → List ℕ
pair_text name west east = name ++ decimal west ++ codes " " ++ decimal east

-- what both ends counted
abbrev pub session_text : Session → List ℕ
session_text session =
    codes "west " ++ decimal session.west_frames ++ codes " east " ++ decimal session.east_frames ++ pair_text (codes " alarms ") session.west_alarms session.east_alarms
    ++ pair_text (codes " febe ") session.west_febe session.east_febe ++ pair_text (codes " errors ") session.west_errors session.east_errors

-- what it says of a session, behind the lines of the monitors
abbrev pub duplex_says : Chain → ℕ → ℕ → Session → Done
duplex_says chain seed frames session = Watched (codes "duplex " ++ name_of_chain chain ++ codes " seed " ++ decimal seed ++ codes " frames " ++ decimal frames ++ codes ": " ++ session_text session ++ codes "\n")

-- ---- the scripts

-- how many bits so many frames have
abbrev pub line_bits : Chain → ℕ → ℕ
line_bits chain frames = frames * top_len (shapes_of chain)

-- the rows of the script of a file, for a line of so many frames, or why it is refused
abbrev pub rows_or_stop : Chain → ℕ → File → Files → Result (List Row) Stop
rows_or_stop chain frames file files = script_or_stop (script_of (line_bits chain frames) (bytes_in files (name_of file)))

-- its rows, where its text has no fault
abbrev pub rows_in : Chain → ℕ → File → Files → List Row
rows_in chain frames file files = result_unwrap_or (rows_or_stop chain frames file files) []

-- the session of two scripts: that of the west terminal disturbs the line to east
abbrev pub setting_in : Chain → ℕ → ℕ → Files → Setting
setting_in chain seed frames files = setting_with chain seed frames (rows_in chain frames West files) (rows_in chain frames East files)

-- ---- what it comes to

-- what both ends count in a session
unfoldable pub linked : Setting → Answer
linked z = Ok (duplex_says z.chain z.seed z.frames (session_of z))

-- the events that the west terminal sees in it
unfoldable pub west_events : Setting → List Event
west_events z = events_of z (ends_of z).west

-- the files that it reads, in order
abbrev pub duplex_inputs : List File
duplex_inputs = West ∷ East ∷ []

abbrev pub duplex_input : ℕ → List ℕ
duplex_input zero = west_name
duplex_input (suc _) = east_name

-- the lines have no more frames than they may have, or they are refused
abbrev pub limited : ℕ → Result (Unit {0}) Stop
limited frames = if nat_lt most_drilled frames then Err (ManyFrames frames) else Ok tt

-- both scripts are held, and the frames are few enough; or why not
abbrev pub ready : ℕ → Files → Result (Unit {0}) Stop
ready frames files = and_then (all_held duplex_inputs files) (λ _. limited frames)

-- the session of both scripts, or the first that refuses: that of the west terminal is judged first
abbrev pub scripts_come : Chain → ℕ → ℕ → Files → Answer
scripts_come chain seed frames files =
    and_then (rows_or_stop chain frames West files) (λ to_east. and_then (rows_or_stop chain frames East files) (λ to_west. linked (setting_with chain seed frames to_east to_west)))

abbrev pub duplex_comes : Chain → ℕ → ℕ → Files → Answer
duplex_comes chain seed frames files = and_then (ready frames files) (λ _. scripts_come chain seed frames files)

-- a script's text isn't too long
abbrev pub is_short : File → Files → Bool
is_short file files = nat_le (length (bytes_in files (name_of file))) most_script_bytes

-- a script is read where nothing refuses before it, and its text isn't too long; that of the east terminal comes behind that of
-- the west terminal
abbrev pub duplex_due : Chain → ℕ → File → Files → Bool
duplex_due chain frames West files = is_ok (ready frames files) && is_short West files
duplex_due chain frames East files = is_ok (ready frames files) && (is_ok (rows_or_stop chain frames West files) && is_short East files)
duplex_due chain frames file files = false

-- `duplex` of a chain, with the patterns of a seed, over so many frames
abbrev pub duplexing : Chain → ℕ → ℕ → Operation
duplexing chain seed frames = record {
  inputs = record { count = 2; name = duplex_input };
  outputs = no_names;
  bytes = no_bytes;
  comes_to = duplex_comes chain seed frames;
  reads_in_run = none_in_run;
  is_due = duplex_due chain frames;
  shows = Some (EventsOfAll (λ files. west_events (setting_in chain seed frames files)));
  tells = None;
}
