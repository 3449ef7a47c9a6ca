-- The text of an answer, and the lines of monitors that stand before it.
use Rattle.std.specs.Prelude.{◌≡◌, ◌<◌, ◌⊎◌, ℕ, List, ◌++◌, length, flat_map, codes, Ok, Err}
use Rattle.pdh_edge.specs.Files.{SinkState, Sends, FailsToSend}
use Rattle.pdh_watch.specs.Monitors.{State, says}
use Rattle.pdh_answers.specs.Answer.{Answer, status_of, done_text, stop_text}
use Rattle.pdh_answers.specs.declared.answer.Done.{Done}
use Rattle.pdh_answers.specs.declared.answer.Done.TheVariants.{Watched}

-- the line of a monitor
abbrev pub monitor_line : State → List ℕ
monitor_line state = says state ++ codes "\n"

-- the line of each monitor, in order
abbrev pub monitor_lines : List State → List ℕ
monitor_lines states = flat_map monitor_line states

-- the whole text of what was done, with what the monitors say, which are in these states
abbrev pub whole_text : List State → Done → List ℕ
whole_text states (Watched text) = monitor_lines states ++ text
whole_text states done = done_text done

-- a stop's text was written, or a prefix of it; where it has none, nothing was
abbrev pub IsTextTold : List ℕ → SinkState → SinkState → Type 0
IsTextTold text old new = (length text ≡ 0 → new ≡ old) × (0 < length text → Sends text old new ⊎ FailsToSend text old new)

-- An answer is told by its status and its text. Where the sink failed, it got a prefix of the text; the status of what
-- was done is 4 then, and any other status stays. Behind a line of a slip that couldn't be written nothing is told.
abbrev pub IsTold : List State → Answer → SinkState → SinkState → ℕ → Type 0
IsTold states (Ok done) old new status = ((status ≡ 0) × Sends (whole_text states done) old new) ⊎ ((status ≡ 4) × FailsToSend (whole_text states done) old new)
IsTold states (Err stop) old new status = (status ≡ status_of stop) × IsTextTold (stop_text stop) old new
