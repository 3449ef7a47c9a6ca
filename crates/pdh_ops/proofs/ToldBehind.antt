-- What a run tells behind what its log was told.
use Rattle.std.proofs.Common.{◌≡◌, ℕ, List, Option, None, Some, ap, subst, ◌∙◌}
use Rattle.pdh_edge.specs.Files.{ShelfState, SinkState}
use Rattle.pdh_slips.specs.declared.slip.Slip.{Slip}
use Rattle.pdh_watch.specs.Monitors.{State}
use Rattle.pdh_answers.specs.Answer.{Answer}
use Rattle.pdh_answers.specs.Lines.{IsTold}
use Rattle.pdh_answers.specs.SlipLines.{LogState, log_state, TellsLines, BreaksLines}
use Rattle.pdh_runner.specs.Operation.{Operation, Files}
use Rattle.pdh_runner.specs.Hearing.{HeardBy}
use Rattle.pdh_words.specs.declared.commands.Command.{Command}
use Rattle.pdh_ops.specs.Commands.{operation_of}
use Rattle.pdh_ops.specs.Run.{Hears, ToldBy, Tells}

-- the log over a sink, told of nothing
pub fresh_log : (sink out : SinkState) (told none : ℕ) → sink ≡ out → told ≡ none → log_state sink told ≡ log_state out none
fresh_log sink out told none same fresh = ap (λ sink. log_state sink told) same ∙ ap (log_state out) fresh

by_tells : (tells : Option (Files → List Slip)) (operation : Operation) (a : ShelfState) (w : List State) (answer : Answer) (k l : SinkState) (log : LogState) (status : ℕ) → HeardBy TellsLines BreaksLines tells operation a answer (log_state k 0) log → IsTold w answer log.sink l status → ToldBy tells operation a w answer k l status
by_tells None operation a w answer k l log status heard told = subst (λ sink. IsTold w answer sink l status) (ap (λ (log : LogState). log.sink) heard) told
by_tells (Some slips) operation a w answer k l log status heard told = (log, heard, told)

pub told_by : (command : Option Command) (a : ShelfState) (w : List State) (answer : Answer) (k l : SinkState) (log : LogState) (status : ℕ) → Hears command a answer (log_state k 0) log → IsTold w answer log.sink l status → Tells command a w answer k l status
told_by None a w answer k l log status hears told = subst (λ sink. IsTold w answer sink l status) (ap (λ (log : LogState). log.sink) hears) told
told_by (Some command) a w answer k l log status hears told = by_tells (operation_of command).tells (operation_of command) a w answer k l log status hears told
