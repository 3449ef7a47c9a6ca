-- A drill is in time.
use Rattle.std.proofs.Common.{◌≡◌, List, ℕ, None, Some, Option, Ok, Err, ◌∙◌, inl, inr, arith}
use Rattle.std.proofs.lemmas.Bool.{cases_lt}
use Rattle.pdh_edge.specs.Files.{ShelfState, SinkState}
use Rattle.pdh_chain.specs.declared.chain.Chain.{Chain}
use Rattle.pdh_watch.specs.Monitors.{State}
use Rattle.pdh_lab.proofs.InTime.{in_time}
use Rattle.pdh_words.specs.declared.commands.Command.{Command}
use Rattle.pdh_words.specs.declared.commands.Command.TheVariants.{Drill}
use Rattle.pdh_answers.specs.Answer.{Answer}
use Rattle.pdh_answers.specs.Lines.{IsTold}
use Rattle.pdh_answers.specs.declared.answer.Stop.TheVariants.{ManyFrames}
use Rattle.pdh_runner.specs.Performing.{Performs}
use Rattle.pdh_making.specs.Drill.{drilling}
use Rattle.pdh_making.proofs.DrillComes.{many_drilled}
use Rattle.pdh_ops.specs.InTime.{AreInTime}
use Rattle.pdh_ops.specs.Run.{Runs}
use Rattle.pdh_ops.proofs.MuxGivesBack.{stop_status}
use Rattle.pdh_shape.specs.OwnNumbers.{most_drilled}

answer_in_time : (chain : Chain) (seed frames : ℕ) (a b : ShelfState) (k l : SinkState) (v : List State) (status : ℕ) (answer : Answer) → Performs (drilling chain seed frames) a b answer → IsTold v answer k l status → AreInTime (Some (Drill chain seed frames)) status
answer_in_time chain seed frames a b k l v status (Err stop) performs tells status_is = absurd (omega (arith, tells.0, stop_status stop))
answer_in_time chain seed frames a b k l v status (Ok done) performs tells status_is = elim (cases_lt most_drilled frames) [
  | inl many ↦
      let wrong : ◌≡◌ {A = Answer} (Ok done) (Err (ManyFrames frames)) = performs.cause (λ name. None) (λ i low. absurd (omega arith)) ∙ many_drilled chain seed frames many in
      absurd (cc)
  | inr few ↦ in_time chain seed frames (omega (arith, few))
]

pub are_in_time : (command : Option Command) (a b : ShelfState) (k l : SinkState) (v w : List State) (status : ℕ) → Runs command a b k l v w status → AreInTime command status
are_in_time (Some (Drill chain seed frames)) a b k l v w status runs = answer_in_time chain seed frames a b k l w status runs.answer runs.does runs.told
are_in_time _ a b k l v w status runs = tt
