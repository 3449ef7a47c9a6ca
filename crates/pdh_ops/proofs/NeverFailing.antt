-- A run over devices that never fail tells what the inputs come to, or that memory was wanting.
use Rattle.std.proofs.Common.{◌≡◌, ℕ, List, Option, Some, None, Ok, Err, inl, inr, ap, ◌∙◌, arith}
use Rattle.pdh_edge.specs.Files.{ShelfState, SinkState, Counts, Rose}
use Rattle.pdh_edge.specs.NeverFails.{no_faults}
use Rattle.pdh_watch.specs.Monitors.{State}
use Rattle.pdh_answers.specs.Answer.{Answer}
use Rattle.pdh_answers.specs.Lines.{IsTold}
use Rattle.pdh_answers.specs.declared.answer.Stop.TheVariants.{Memory}
use Rattle.pdh_words.specs.declared.commands.Command.{Command}
use Rattle.pdh_ops.specs.Commands.{operation_of}
use Rattle.pdh_ops.specs.Run.{Runs, IsToldBehind, IsToldWhole, Completes, CompletesAlways, status_with}
use Rattle.pdh_slips.specs.declared.slip.Slip.{Slip}
use Rattle.pdh_runner.specs.Operation.{Files}

-- an answer that is told to a sink whose count of faults stays 0 has its status
told_status : (states : List State) (answer : Answer) (old new : SinkState) (status : ℕ) → old.faults ≡ 0 → new.faults ≡ 0 → IsTold states answer old new status → status ≡ status_with answer
told_status states (Ok done) old new status before after told = elim told [
  | inl sent ↦ sent.0
  | inr failed ↦ absurd (omega (arith, before, after, failed.1.faults))
]
told_status states (Err stop) old new status before after told = told.0

-- behind lines of slips too, none of which failed
behind_status : (slips : List Slip) (states : List State) (answer : Answer) (old new : SinkState) (status : ℕ) → old.faults ≡ 0 → new.faults ≡ 0 → IsToldBehind slips states answer old new status → status ≡ status_with answer
behind_status slips states answer old new status before after (inl told) = told_status states answer told.0 new status (told.1.faults ∙ before) after told.2
behind_status slips states answer old new status before after (inr failed) = absurd (omega (arith, before, after, failed.1.faults))

whole_status : (tells : Option (Files → List Slip)) (files : Files) (states : List State) (answer : Answer) (old new : SinkState) (status : ℕ) → old.faults ≡ 0 → new.faults ≡ 0 → IsToldWhole tells files states answer old new status → status ≡ status_with answer
whole_status None files states answer old new status before after told = told_status states answer old new status before after told
whole_status (Some slips) files states answer old new status before after told = behind_status (slips files) states answer old new status before after told

pub completes_always : (command : Option Command) (a b : ShelfState) (old new : SinkState) (before after : List State) (status m n : ℕ) → a.counts ≡ no_faults m → b.counts ≡ no_faults n → old.faults ≡ 0 → new.faults ≡ 0
    → Runs command a b old new before after status → Completes command a b old new after status → CompletesAlways command a status
completes_always None a b old new before after status m n counts_a counts_b old_is new_is runs completes = told_status after runs.answer old new status old_is new_is runs.told ∙ ap status_with runs.does.0
completes_always (Some command) a b old new before after status m n counts_a counts_b old_is new_is runs completes = λ files told.
    let reads : ¬ Rose a.counts.read_faults b.counts.read_faults = λ rose. omega (arith, rose, ap (λ (counts : Counts). counts.read_faults) counts_a, ap (λ (counts : Counts). counts.read_faults) counts_b) in
    let writes : ¬ Rose a.counts.write_faults b.counts.write_faults = λ rose. omega (arith, rose, ap (λ (counts : Counts). counts.write_faults) counts_a, ap (λ (counts : Counts). counts.write_faults) counts_b) in
    elim (completes files told reads writes) [
      | inl memory ↦ inl (told_status after (Err Memory) old new status old_is new_is memory)
      | inr comes ↦ inr (whole_status (operation_of command).tells files after ((operation_of command).comes_to files) old new status old_is new_is comes)
    ]
