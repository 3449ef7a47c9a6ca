-- What a log was told in the end, by how the work came out.
use Rattle.std.proofs.Common.{◌≡◌, inl, inr, true, false, List, [], Option, None, Some, Ok, Err, sym, subst, ◌∙◌}
use Rattle.std.proofs.lemmas.List.{append-nil}
use Rattle.pdh_edge.specs.Files.{ShelfState}
use Rattle.pdh_blocks.specs.State.{PortState}
use Rattle.pdh_slips.specs.declared.slip.Slip.{Slip}
use Rattle.pdh_answers.specs.Answer.{Answer}
use Rattle.pdh_answers.specs.declared.answer.Stop.{Stop}
use Rattle.pdh_answers.specs.declared.answer.Stop.TheVariants.{Memory, Read, Write, Overflow, Underflow, NoAlignment, Unheard}
use Rattle.pdh_runner.specs.Operation.{Operation, Files, reaches_outputs}
use Rattle.pdh_runner.specs.Running.{ComesOut}
use Rattle.pdh_runner.specs.Refusing.{Refuses}
use Rattle.pdh_runner.specs.Hearing.{HearsAll, HearsFront, HeardBy, IsHeard, IsCallAnswer, Ends}
use Rattle.pdh_runner.specs.declared.running.Outcome.{Outcome}
use Rattle.pdh_runner.specs.declared.running.Outcome.TheVariants.{Whole, Memory as WantsMemory, Failed, Unheard as LogFailed}

module _ {G : Type 0} (logged broken : G → List Slip → G → Type 0) where
  -- the same of an equal end
  pub heard_so : (tells : Option (Files → List Slip)) (operation : Operation) (a : ShelfState) (x y : Answer) (before after : G) → x ≡ y → HeardBy logged broken tells operation a y before after → HeardBy logged broken tells operation a x before after
  heard_so tells operation a x y before after answer heard = subst (λ x. HeardBy logged broken tells operation a x before after) (sym answer) heard

  -- a log that was left as it was
  pub heard_memory : (tells : Option (Files → List Slip)) (operation : Operation) (a : ShelfState) (before after : G) → after ≡ before → HeardBy logged broken tells operation a (Err Memory) before after
  heard_memory None operation a before after same = same
  heard_memory (Some slips) operation a before after same = same

  -- and so does a step that refuses
  pub heard_refused : (tells : Option (Files → List Slip)) (operation : Operation) (a b : ShelfState) (stop : Stop) (before after : G) → Refuses operation a b stop → after ≡ before → HeardBy logged broken tells operation a (Err stop) before after
  heard_refused None operation a b stop before after refuses same = same
  heard_refused (Some slips) operation a b (Read file) before after refuses same = inl same
  heard_refused (Some slips) operation a b (Write file) before after refuses same = inl same
  heard_refused (Some slips) operation a b Unheard before after refuses same = absurd refuses
  heard_refused (Some slips) operation a b stop before after refuses same = same

  module _ (slips : Files → List Slip) (operation : Operation) (a : ShelfState) (before after : G) where
    -- all of them are the first of them
    front_of_all : HearsAll logged broken slips operation a before after → HearsFront logged broken slips operation a before after
    front_of_all all = record {
      told = all.told;
      logs_them = all.logs_them;
      front = λ files told. ([], append-nil all.told ∙ all.all files told);
    }

    -- a call failed
    call_front : (answer : Answer) → IsCallAnswer answer → HearsFront logged broken slips operation a before after → HeardBy logged broken (Some slips) operation a answer before after
    call_front (Ok done) call front = absurd call
    call_front (Err (Read file)) call front = inr front
    call_front (Err (Write file)) call front = inr front
    call_front (Err stop) call front = absurd call

    call_same : (answer : Answer) → IsCallAnswer answer → after ≡ before → HeardBy logged broken (Some slips) operation a answer before after
    call_same (Ok done) call same = absurd call
    call_same (Err (Read file)) call same = inl same
    call_same (Err (Write file)) call same = inl same
    call_same (Err stop) call same = absurd call

    -- behind the outputs
    call_after : (answer result : Answer) → reaches_outputs answer ≡ true → IsCallAnswer result → HeardBy logged broken (Some slips) operation a answer before after → HeardBy logged broken (Some slips) operation a result before after
    call_after (Ok done) result behind call heard = call_front result call (front_of_all heard)
    call_after (Err (Overflow place)) result behind call heard = call_same result call heard
    call_after (Err (Underflow place)) result behind call heard = call_same result call heard
    call_after (Err (NoAlignment bits)) result behind call heard = call_same result call heard
    call_after (Err stop) result behind call heard = absurd (let wrong : false ≡ true = behind in cc)

  heard_of : (tells : Option (Files → List Slip)) (operation : Operation) (a : ShelfState) (p q : PortState) (outcome : Outcome) (result : Answer) (before after : G) → ComesOut operation a p q outcome → IsHeard logged broken tells operation a outcome before after → Ends outcome result
      → HeardBy logged broken tells operation a result before after
  heard_of None operation a p q outcome result before after comes heard ends = heard
  heard_of (Some slips) operation a p q (Whole answer) result before after comes heard ends = elim ends [
    | inl same ↦ heard_so (Some slips) operation a result answer before after same heard
    | inr call ↦ call_after slips operation a before after answer result comes.behind call heard
  ]
  heard_of (Some slips) operation a p q WantsMemory result before after comes heard ends = heard_so (Some slips) operation a result (Err Memory) before after ends heard
  heard_of (Some slips) operation a p q Failed result before after comes heard ends = call_front slips operation a before after result ends heard
  heard_of (Some slips) operation a p q LogFailed result before after comes heard ends = heard_so (Some slips) operation a result (Err Unheard) before after ends heard

  -- what it was told in the end
  pub heard_ends : (operation : Operation) (a : ShelfState) (p q : PortState) (outcome : Outcome) (result : Answer) (before after : G) → ComesOut operation a p q outcome → IsHeard logged broken operation.tells operation a outcome before after → Ends outcome result
      → HeardBy logged broken operation.tells operation a result before after
  heard_ends operation a p q outcome result before after comes heard ends = heard_of operation.tells operation a p q outcome result before after comes heard ends
