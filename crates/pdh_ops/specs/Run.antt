-- What a run does, whatever its command.
use Rattle.std.specs.Prelude.{◌≡◌, ◌⊎◌, ℕ, List, ⊤, Option, Some, None, Ok, Err}
use Rattle.pdh_edge.specs.Files.{ShelfState, SinkState, Sends, FailsToSend, Rose}
use Rattle.pdh_watch.specs.Monitors.{State}
use Rattle.pdh_answers.specs.Answer.{Answer, status_of}
use Rattle.pdh_slips.specs.declared.slip.Slip.{Slip}
use Rattle.pdh_answers.specs.Lines.{IsTold}
use Rattle.pdh_answers.specs.SlipLines.{LogState, log_state, slip_lines, TellsLines, BreaksLines}
use Rattle.pdh_runner.specs.Operation.{Operation, AreTold, OfInputs, Files}
use Rattle.pdh_runner.specs.Hearing.{HeardBy, LogsSlips}
use Rattle.pdh_words.specs.declared.commands.Command.{Command}
use Rattle.pdh_answers.specs.declared.answer.Stop.TheVariants.{Memory, Usage}
use Rattle.pdh_ops.specs.Commands.{operation_of}
use Rattle.pdh_runner.specs.Performing.{Performs, IsWatched}

-- words that are no row of the table are refused, and then nothing happens
abbrev pub Does : Option Command → ShelfState → ShelfState → Answer → Type 0
Does None old new answer = (answer ≡ Err Usage) × (new ≡ old)
Does (Some command) old new answer = Performs (operation_of command) old new answer

abbrev pub Watches : Option Command → ShelfState → ShelfState → Answer → List State → List State → Type 0
Watches None old new answer before after = after ≡ before
Watches (Some command) old new answer before after = IsWatched (operation_of command) old new answer before after

-- the log of the program gets the slips of a command that tells them, and else is left as it was
abbrev pub Hears : Option Command → ShelfState → Answer → LogState → LogState → Type 0
Hears None old answer before after = after ≡ before
Hears (Some command) old answer before after = LogsSlips (operation_of command) old answer before after

-- ---- what it tells

-- an answer was told behind the lines of its slips, if its command tells any
abbrev pub ToldBy : Option (Files → List Slip) → Operation → ShelfState → List State → Answer → SinkState → SinkState → ℕ → Type 0
ToldBy None operation old states answer before after status = IsTold states answer before after status
ToldBy (Some slips) operation old states answer before after status =
    (between : LogState) × HeardBy TellsLines BreaksLines (Some slips) operation old answer (log_state before 0) between × IsTold states answer between.sink after status

abbrev pub Tells : Option Command → ShelfState → List State → Answer → SinkState → SinkState → ℕ → Type 0
Tells None old states answer before after status = IsTold states answer before after status
Tells (Some command) old states answer before after status = ToldBy (operation_of command).tells (operation_of command) old states answer before after status

-- what a run does with the command of its words, to the shelf, to the monitors and to the sink
pub record Runs (command : Option Command) (old new : ShelfState) (before after : SinkState) (seen_before seen_after : List State) (status : ℕ) : Type 0 where
  pub answer : Answer
  pub does : Does command old new answer
  pub watches : Watches command old new answer seen_before seen_after
  pub told : Tells command old seen_after answer before after status

-- behind the lines of all slips, unless the sink failed in one of them
abbrev pub IsToldBehind : List Slip → List State → Answer → SinkState → SinkState → ℕ → Type 0
IsToldBehind slips states answer before after status =
    ((between : SinkState) × Sends (slip_lines slips) before between × IsTold states answer between after status) ⊎ ((status ≡ 4) × FailsToSend (slip_lines slips) before after)

abbrev pub IsToldWhole : Option (Files → List Slip) → Files → List State → Answer → SinkState → SinkState → ℕ → Type 0
IsToldWhole None files states answer before after status = IsTold states answer before after status
IsToldWhole (Some slips) files states answer before after status = IsToldBehind (slips files) states answer before after status

-- where the inputs are told and no fault of the shelf rose, a run tells exactly what they come to, or want of memory
abbrev pub Completes : Option Command → ShelfState → ShelfState → SinkState → SinkState → List State → ℕ → Type 0
Completes None old new before after seen_after status = ⊤
Completes (Some command) old new before after seen_after status =
    (files : Files) → AreTold (operation_of command) old.told files → ¬ Rose old.counts.read_faults new.counts.read_faults → ¬ Rose old.counts.write_faults new.counts.write_faults
    → IsTold seen_after (Err Memory) before after status ⊎ IsToldWhole (operation_of command).tells files seen_after ((operation_of command).comes_to files) before after status

-- ---- over devices that never fail

-- the status of an answer
abbrev pub status_with : Answer → ℕ
status_with (Ok done) = 0
status_with (Err stop) = status_of stop

-- Words that are no row of the table have status 2. Where the inputs are told, a run has the status of what they come to, or that
-- of want of memory, whatever else there is.
abbrev pub CompletesAlways : Option Command → ShelfState → ℕ → Type 0
CompletesAlways None old status = status ≡ 2
CompletesAlways (Some command) old status = OfInputs (operation_of command) old (λ files. (status ≡ 1) ⊎ (status ≡ status_with ((operation_of command).comes_to files)))
