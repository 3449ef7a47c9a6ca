-- What `drill` comes to.
use Rattle.std.specs.Prelude.{ℕ, nat_lt, None, Ok, Err, if◌then◌else◌, List, ◌++◌, codes, decimal}
use Rattle.pdh_chain.specs.declared.chain.Chain.{Chain}
use Rattle.pdh_lab.specs.Drill.{drill_of}
use Rattle.pdh_answers.specs.Answer.{Answer}
use Rattle.pdh_answers.specs.declared.answer.Stop.TheVariants.{ManyFrames}
use Rattle.pdh_shape.specs.OwnNumbers.{most_drilled}
use Rattle.pdh_runner.specs.Operation.{Operation, no_names, no_bytes, none_in_run, due_at_outputs}
use Rattle.pdh_answers.specs.declared.answer.Done.TheVariants.{Line}
use Rattle.pdh_answers.specs.declared.answer.Done.{Done}
use Rattle.pdh_chain.specs.Chains.{name_of as name_of_chain}
use Rattle.pdh_lab.specs.declared.report.Drill.{Drill}

-- the report of a drill
abbrev pub drill_text : Drill → List ℕ
drill_text drill =
    decimal drill.leaves ++ codes " in " ++ decimal drill.entered ++ codes " out " ++ decimal drill.out ++ codes " equal " ++ decimal drill.equal ++ codes " late " ++ decimal drill.late

-- what it says of what came back
abbrev pub drill_says : Chain → ℕ → ℕ → Drill → Done
drill_says chain seed frames drill = Line (codes "drill " ++ name_of_chain chain ++ codes " seed " ++ decimal seed ++ codes " frames " ++ decimal frames ++ codes ": leaves " ++ drill_text drill ++ codes "\n")

-- the report on so many frames, or too many frames
abbrev pub drilled : Chain → ℕ → ℕ → Answer
drilled chain seed frames = if nat_lt most_drilled frames then Err (ManyFrames frames) else Ok (drill_says chain seed frames (drill_of chain seed frames))

abbrev pub drilling : Chain → ℕ → ℕ → Operation
drilling chain seed frames = record {
  inputs = no_names;
  outputs = no_names;
  bytes = no_bytes;
  comes_to = λ files. drilled chain seed frames;
  reads_in_run = none_in_run;
  is_due = due_at_outputs (λ files. drilled chain seed frames);
  shows = None;
  tells = None;
}
