-- What a command answers: its status and its text.
use Rattle.std.specs.Prelude.{ℕ, List, [], ◌++◌, codes, decimal, Result, Ok, Err}
use Rattle.pdh_shape.specs.declared.place.Place.{Place}
use Rattle.pdh_line.specs.Paths.{steps_of, path_text}
use Rattle.pdh_clock.specs.declared.fault.ScheduleFault.{ScheduleFault}
use Rattle.pdh_clock.specs.declared.fault.ScheduleFault.TheVariants.{TooLong as LongText, BadRow as RowIsBad, UnknownNode as NodeIsUnknown, CountOver as CountIsOver, Memory as NoMemory}
use Rattle.pdh_script.specs.declared.fault.ScriptFault.{ScriptFault}
use Rattle.pdh_script.specs.declared.fault.ScriptFault.TheVariants.{TooLong as LongScriptText, BadRow as ScriptRowIsBad, PastEnd as EndIsPast, Memory as NoScriptMemory}
use Rattle.pdh_script.specs.Scripts.{Row}
use Rattle.pdh_answers.specs.Names.{name_of}
use Rattle.pdh_answers.specs.declared.answer.Done.{Done}
use Rattle.pdh_answers.specs.declared.answer.Done.TheVariants.{Line, Watched, Frame}
use Rattle.pdh_answers.specs.declared.answer.Stop.{Stop}
use Rattle.pdh_answers.specs.declared.answer.Stop.TheVariants.{Memory, Usage, Read, Write, Missing, LongSchedule, BadRow, UnknownNode, CountOver, ShortNode, Short, Overflow, Underflow, ManyFrames, NoAlignment, NotWhole, LongScript, BadScriptRow, PastEnd, Unheard}

-- what was done, or why not
abbrev pub Answer : Type 0
Answer = Result Done Stop

-- how a fault of the schedule's text ends the command
abbrev pub stop_of_fault : ScheduleFault → Stop
stop_of_fault (LongText len) = LongSchedule
stop_of_fault (RowIsBad line) = BadRow line
stop_of_fault (NodeIsUnknown line) = UnknownNode line
stop_of_fault (CountIsOver line count most) = CountOver line count most
stop_of_fault NoMemory = Memory

-- how a fault of the script's text ends the command
abbrev pub stop_of_script : ScriptFault → Stop
stop_of_script (LongScriptText len) = LongScript
stop_of_script (ScriptRowIsBad line) = BadScriptRow line
stop_of_script (EndIsPast line) = PastEnd line
stop_of_script NoScriptMemory = Memory

-- the rows of a script, or how the fault of its text ends the command
abbrev pub script_or_stop : Result (List Row) ScriptFault → Result (List Row) Stop
script_or_stop (Ok rows) = Ok rows
script_or_stop (Err fault) = Err (stop_of_script fault)

-- the next step, unless an earlier one refused
abbrev pub and_then : {A B : Type 0} → Result A Stop → (A → Result B Stop) → Result B Stop
and_then (Ok x) next = next x
and_then (Err stop) next = Err stop

abbrev pub status_of : Stop → ℕ
status_of Memory = 1
status_of Usage = 2
status_of (Read file) = 3
status_of (Write file) = 4
status_of (Missing file) = 5
status_of LongSchedule = 6
status_of (BadRow line) = 6
status_of (UnknownNode line) = 6
status_of (CountOver line count most) = 6
status_of (ShortNode node have need) = 7
status_of (Short file have need) = 7
status_of (Overflow place) = 8
status_of (Underflow place) = 8
status_of LongScript = 9
status_of (BadScriptRow line) = 9
status_of (PastEnd line) = 9
status_of (ManyFrames frames) = 10
status_of (NoAlignment bits) = 11
status_of (NotWhole octets) = 12
status_of Unheard = 4

-- a place as texts have it: tributaries are counted from 1, frames and slots from 0
abbrev pub place_text : Place → List ℕ
place_text place =
    path_text (steps_of place.path) ++ codes " tributary " ++ decimal place.trib ++ codes " frame " ++ decimal place.frame ++ codes " slot " ++ decimal place.slot

-- the text of what was done
abbrev pub done_text : Done → List ℕ
done_text (Line text) = text
done_text (Watched text) = text
done_text (Frame text) = text

-- what is told of words that are no command
abbrev pub usage_text : List ℕ
usage_text = codes "usage: pdh mux demux clock inspect show e1pack e1unpack disturb drill muxslip ds1pack ds1unpack smooth duplex"

-- each text of a stop is one line, but for the stop behind a line that couldn't be written, which has none
abbrev pub stop_text : Stop → List ℕ
stop_text Memory = codes "memory\n"
stop_text Usage = usage_text ++ codes "\n"
stop_text (Read file) = codes "read fault: " ++ name_of file ++ codes "\n"
stop_text (Write file) = codes "write fault: " ++ name_of file ++ codes "\n"
stop_text (Missing file) = codes "missing: " ++ name_of file ++ codes "\n"
stop_text LongSchedule = codes "schedule: too long\n"
stop_text (BadRow line) = codes "schedule: line " ++ decimal line ++ codes ": bad row\n"
stop_text (UnknownNode line) = codes "schedule: line " ++ decimal line ++ codes ": unknown node\n"
stop_text (CountOver line count most) = codes "schedule: line " ++ decimal line ++ codes ": count " ++ decimal count ++ codes " over " ++ decimal most ++ codes "\n"
stop_text (ShortNode node have need) = codes "short: " ++ path_text (steps_of node) ++ codes ": have " ++ decimal have ++ codes " frames, need " ++ decimal need ++ codes "\n"
stop_text (Short file have need) = codes "short: " ++ name_of file ++ codes ": have " ++ decimal have ++ codes " bits, need " ++ decimal need ++ codes "\n"
stop_text (Overflow place) = codes "overflow: " ++ place_text place ++ codes "\n"
stop_text (Underflow place) = codes "underflow: " ++ place_text place ++ codes "\n"
stop_text LongScript = codes "script: too long\n"
stop_text (BadScriptRow line) = codes "script: line " ++ decimal line ++ codes ": bad row\n"
stop_text (PastEnd line) = codes "script: line " ++ decimal line ++ codes ": past the end\n"
stop_text (ManyFrames frames) = codes "too many frames: " ++ decimal frames ++ codes "\n"
stop_text (NoAlignment bits) = codes "no alignment: " ++ decimal bits ++ codes " bits\n"
stop_text (NotWhole octets) = codes "not a whole multiframe: " ++ decimal octets ++ codes " octets\n"
stop_text Unheard = []
