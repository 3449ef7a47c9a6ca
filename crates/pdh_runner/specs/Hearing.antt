-- What a command tells a log of slips. `logged` and `broken` tell what a log was told of, all of it or all but the last; `before`
-- and `after` are the log before and after the command.
use Rattle.std.specs.Prelude.{◌≡◌, ◌⊎◌, List, ◌++◌, ⊤, Option, Some, None, Ok, Err}
use Rattle.pdh_edge.specs.Files.{ShelfState}
use Rattle.pdh_slips.specs.declared.slip.Slip.{Slip}
use Rattle.pdh_answers.specs.Answer.{Answer}
use Rattle.pdh_answers.specs.SlipLines.{LogState, log_state, TellsLines, BreaksLines}
use Rattle.pdh_answers.specs.declared.answer.Stop.{Stop}
use Rattle.pdh_answers.specs.declared.answer.Stop.TheVariants.{Memory, Read, Write, Unheard}
use Rattle.pdh_runner.specs.Operation.{Operation, OfInputs, Files}
use Rattle.pdh_runner.specs.declared.running.Outcome.{Outcome}
use Rattle.pdh_runner.specs.declared.running.Outcome.TheVariants.{Whole, Memory as WantsMemory, Failed, Unheard as LogFailed}

-- ---- slips

-- the slips begin with these
abbrev pub BeginWith : List Slip → List Slip → Type 0
BeginWith told slips = (rest : List Slip) × (told ++ rest ≡ slips)

-- it was told of all slips
pub record HearsAll {G : Type 0} (logged broken : G → List Slip → G → Type 0) (slips : Files → List Slip) (operation : Operation) (old : ShelfState) (before after : G) : Type 0 where
  pub told : List Slip
  pub logs_them : logged before told after
  pub all : OfInputs operation old (λ files. told ≡ slips files)

-- it was told of the first of them
pub record HearsFront {G : Type 0} (logged broken : G → List Slip → G → Type 0) (slips : Files → List Slip) (operation : Operation) (old : ShelfState) (before after : G) : Type 0 where
  pub told : List Slip
  pub logs_them : logged before told after
  pub front : OfInputs operation old (λ files. BeginWith told (slips files))

-- it failed at the last of the first of them
pub record BreaksAt {G : Type 0} (logged broken : G → List Slip → G → Type 0) (slips : Files → List Slip) (operation : Operation) (old : ShelfState) (before after : G) : Type 0 where
  pub told : List Slip
  pub breaks : broken before told after
  pub front : OfInputs operation old (λ files. BeginWith told (slips files))

-- ---- a command

-- A command that has slips to tell and did its work told them all. Where a call of the shelf failed it told none, or the first of
-- them; and where the log failed, those up to the one that it failed at. Every other run leaves the log as it was.
abbrev pub HeardBy : {G : Type 0} → (logged broken : G → List Slip → G → Type 0) → Option (Files → List Slip) → Operation → ShelfState → Answer → G → G → Type 0
HeardBy logged broken None operation old answer before after = after ≡ before
HeardBy logged broken (Some slips) operation old (Ok done) before after = HearsAll logged broken slips operation old before after
HeardBy logged broken (Some slips) operation old (Err (Read file)) before after = (after ≡ before) ⊎ HearsFront logged broken slips operation old before after
HeardBy logged broken (Some slips) operation old (Err (Write file)) before after = (after ≡ before) ⊎ HearsFront logged broken slips operation old before after
HeardBy logged broken (Some slips) operation old (Err Unheard) before after = BreaksAt logged broken slips operation old before after
HeardBy logged broken (Some slips) operation old (Err stop) before after = after ≡ before

-- ---- its work

-- the same by how its work came out
abbrev pub IsHeard : {G : Type 0} → (logged broken : G → List Slip → G → Type 0) → Option (Files → List Slip) → Operation → ShelfState → Outcome → G → G → Type 0
IsHeard logged broken None operation begun outcome before after = after ≡ before
IsHeard logged broken (Some slips) operation begun (Whole answer) before after = HeardBy logged broken (Some slips) operation begun answer before after
IsHeard logged broken (Some slips) operation begun WantsMemory before after = after ≡ before
IsHeard logged broken (Some slips) operation begun Failed before after = HearsFront logged broken slips operation begun before after
IsHeard logged broken (Some slips) operation begun LogFailed before after = BreaksAt logged broken slips operation begun before after

-- ---- the log of the program

-- where there is none
abbrev pub no_log : LogState
no_log = log_state (record { written = None; faults = 0 }) 0

-- what a command tells it
abbrev pub LogsSlips : Operation → ShelfState → Answer → LogState → LogState → Type 0
LogsSlips operation old answer before after = HeardBy TellsLines BreaksLines operation.tells operation old answer before after

-- and what its work does
abbrev pub WorkLogsSlips : Operation → ShelfState → Outcome → LogState → LogState → Type 0
WorkLogsSlips operation begun outcome before after = IsHeard TellsLines BreaksLines operation.tells operation begun outcome before after

-- ---- how a command ends

-- a call of the shelf failed
abbrev pub IsCallStop : Stop → Type 0
IsCallStop (Read file) = ⊤
IsCallStop (Write file) = ⊤
IsCallStop stop = ⊥

abbrev pub IsCallAnswer : Answer → Type 0
IsCallAnswer (Ok done) = ⊥
IsCallAnswer (Err stop) = IsCallStop stop

-- how a command ends by how its work came out: by the work's answer, unless a call failed
abbrev pub Ends : Outcome → Answer → Type 0
Ends (Whole answer) result = (result ≡ answer) ⊎ IsCallAnswer result
Ends WantsMemory result = result ≡ Err Memory
Ends Failed result = IsCallAnswer result
Ends LogFailed result = result ≡ Err Unheard
