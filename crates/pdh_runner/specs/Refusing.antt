-- Why a step of a command stops before its outputs.
use Rattle.std.specs.Prelude.{⊤, Err}
use Rattle.pdh_edge.specs.Files.{ShelfState}
use Rattle.pdh_runner.specs.Performing.{Comes, FailsInTurn, FailsEarly}
use Rattle.pdh_answers.specs.declared.answer.Stop.{Stop}
use Rattle.pdh_answers.specs.declared.answer.Stop.TheVariants.{Memory, Usage, Read, Write, Overflow, Underflow, NoAlignment, Unheard}
use Rattle.pdh_runner.specs.Operation.{Operation}

-- memory is wanting, a call failed to read in its turn and before the run, or the inputs come to this stop
abbrev pub Refuses : Operation → ShelfState → ShelfState → Stop → Type 0
Refuses operation old new Memory = ⊤
Refuses operation old new Usage = ⊥
Refuses operation old new (Read file) = FailsInTurn operation file old new × FailsEarly operation file old new
Refuses operation old new (Write file) = ⊥
Refuses operation old new (Overflow place) = ⊥
Refuses operation old new (Underflow place) = ⊥
Refuses operation old new (NoAlignment bits) = ⊥
Refuses operation old new Unheard = ⊥
Refuses operation old new stop = Comes operation old (Err stop)
