-- What follows from the causes of a run.
use Rattle.std.proofs.Common.{◌≡◌, ◌≢◌, ◌⊎◌, ℕ, List, [], Option, None, Some, Ok, Err, refl, ap, sym, subst, inl, inr, arith}
use Rattle.std.specs.Prelude.{⊤}
use Rattle.pdh_edge.specs.Counts.{one_more}
use Rattle.pdh_edge.specs.Files.{ShelfState, Counts, SinkState, Sends, FailsToSend, Rose}
use Rattle.pdh_answers.specs.Answer.{Answer}
use Rattle.pdh_runner.specs.Operation.{Operation, AreTold, Files}
use Rattle.pdh_ops.specs.Commands.{operation_of}
use Rattle.pdh_watch.specs.Monitors.{State}
use Rattle.pdh_slips.specs.declared.slip.Slip.{Slip}
use Rattle.pdh_answers.specs.Lines.{IsTold}
use Rattle.pdh_answers.specs.SlipLines.{LogState, log_state, slip_lines, TellsLines, BreaksLines}
use Rattle.pdh_answers.specs.laws.SlipLineLaws.{sends_nothing}
use Rattle.pdh_answers.proofs.Lines.{breaks_fails}
use Rattle.pdh_runner.specs.Hearing.{HeardBy}
use Rattle.pdh_making.specs.Schedules.{rows_in}
use Rattle.pdh_making.specs.Mux.{slips_in, slips_where}
use Rattle.pdh_runner.specs.Performing.{HasCause, IsCounted}
use Rattle.pdh_ops.specs.Run.{Runs, ToldBy, IsToldBehind, IsToldWhole, Completes}
use Rattle.pdh_words.specs.declared.commands.Command.{Command}
use Rattle.pdh_words.specs.declared.commands.Command.TheVariants.{Demux, Mux, MuxSlip, ClockCheck, ClockMake, Inspect, InspectE1, Show, E1Pack, E1Unpack, Ds1Pack, Ds1Unpack, Disturb, Drill, Smooth, Duplex}
use Rattle.pdh_answers.specs.declared.answer.Stop.{Stop}
use Rattle.pdh_answers.specs.declared.answer.Stop.TheVariants.{Memory, Usage, Read, Write, Unheard}

-- a count with one more rose
one_more_rose : (n m : ℕ) → m ≡ one_more n → Rose n m
one_more_rose n m e = omega arith

-- an answer that the inputs come to, with nothing told between
abbrev IsPlainAnswer : Answer → Type 0
IsPlainAnswer (Ok done) = ⊤
IsPlainAnswer (Err Memory) = ⊥
IsPlainAnswer (Err (Read file)) = ⊥
IsPlainAnswer (Err (Write file)) = ⊥
IsPlainAnswer (Err Unheard) = ⊥
IsPlainAnswer (Err stop) = ⊤

-- where no fault rose, a command answers exactly what its inputs come to, or want of memory, or that its log failed
exact : (operation : Operation) (a b : ShelfState) (answer : Answer) (files : Files) → HasCause operation a b answer → IsCounted a b answer → AreTold operation a.told files →
    (Rose a.counts.read_faults b.counts.read_faults → ⊥) → (Rose a.counts.write_faults b.counts.write_faults → ⊥)
    → (answer ≡ Err Memory) ⊎ (((answer ≡ operation.comes_to files) × IsPlainAnswer answer) ⊎ ((answer ≡ Err Unheard) × (operation.tells ≢ None)))
exact operation a b (Ok done) files cause counted told reads writes = inr (inl (cause files told, tt))
exact operation a b (Err Memory) files cause counted told reads writes = inl refl
exact operation a b (Err Usage) files cause counted told reads writes = absurd cause
exact operation a b (Err (Read file)) files cause counted told reads writes = absurd (reads (one_more_rose a.counts.read_faults b.counts.read_faults (ap (λ (c : Counts). c.read_faults) counted)))
exact operation a b (Err (Write file)) files cause counted told reads writes = absurd (writes (one_more_rose a.counts.write_faults b.counts.write_faults (ap (λ (c : Counts). c.write_faults) counted)))
exact operation a b (Err Unheard) files cause counted told reads writes = inr (inr (refl, cause.1))
exact operation a b (Err stop) files cause counted told reads writes = inr (inl (cause files told, tt))

-- ---- what is told

-- no slip is told where the inputs come to a stop
abbrev TellsWhenDone : Option (Files → List Slip) → Operation → Type 0
TellsWhenDone None operation = ⊤
TellsWhenDone (Some slips) operation = (files : Files) (stop : Stop) → operation.comes_to files ≡ Err stop → slips files ≡ []

-- behind all slips, or none
behind : (slips : Files → List Slip) (operation : Operation) (a : ShelfState) (files : Files) (k l : SinkState) (between : LogState) (w : List State) (status : ℕ) (answer : Answer) → TellsWhenDone (Some slips) operation → AreTold operation a.told files → answer ≡ operation.comes_to files → IsPlainAnswer answer
    → HeardBy TellsLines BreaksLines (Some slips) operation a answer (log_state k 0) between → IsTold w answer between.sink l status → IsToldBehind (slips files) w answer k l status
behind slips operation a files k l between w status (Ok done) none told comes plain heard tells =
    inl (between.sink, subst (λ slips. Sends (slip_lines slips) k between.sink) (heard.all files told) heard.logs_them.sends, tells)
behind slips operation a files k l between w status (Err Memory) none told comes plain heard tells = absurd plain
behind slips operation a files k l between w status (Err (Read file)) none told comes plain heard tells = absurd plain
behind slips operation a files k l between w status (Err (Write file)) none told comes plain heard tells = absurd plain
behind slips operation a files k l between w status (Err Unheard) none told comes plain heard tells = absurd plain
behind slips operation a files k l between w status (Err stop) none told comes plain heard tells =
    let same : between.sink ≡ k = ap (λ (log : LogState). log.sink) heard in
    inl (k, subst (λ slips. Sends (slip_lines slips) k k) (sym (none files stop (sym comes))) (sends_nothing k), subst (λ sink. IsTold w (Err stop) sink l status) same tells)

told_whole : (operation : Operation) (tells : Option (Files → List Slip)) → operation.tells ≡ tells → TellsWhenDone tells operation → (a b : ShelfState) (k l : SinkState) (w : List State) (status : ℕ) (answer : Answer) (files : Files) → AreTold operation a.told files
    → (answer ≡ Err Memory) ⊎ (((answer ≡ operation.comes_to files) × IsPlainAnswer answer) ⊎ ((answer ≡ Err Unheard) × (operation.tells ≢ None))) → ToldBy tells operation a w answer k l status
    → IsTold w (Err Memory) k l status ⊎ IsToldWhole tells files w (operation.comes_to files) k l status
told_whole operation None is none a b k l w status answer files told (inl e) tells = inl (subst (λ answer. IsTold w answer k l status) e tells)
told_whole operation None is none a b k l w status answer files told (inr (inl e)) tells = inr (subst (λ answer. IsTold w answer k l status) e.0 tells)
told_whole operation None is none a b k l w status answer files told (inr (inr e)) tells = absurd (e.1 is)
told_whole operation (Some slips) is none a b k l w status answer files told (inl e) tells =
    let heard = subst (λ answer. HeardBy TellsLines BreaksLines (Some slips) operation a answer (log_state k 0) tells.0) e tells.1 in
    inl (subst (λ sink. IsTold w (Err Memory) sink l status) (ap (λ (log : LogState). log.sink) heard) (subst (λ answer. IsTold w answer tells.0.sink l status) e tells.2))
told_whole operation (Some slips) is none a b k l w status answer files told (inr (inl e)) tells =
    inr (subst (λ answer. IsToldBehind (slips files) w answer k l status) e.0 (behind slips operation a files k l tells.0 w status answer none told e.0 e.1 tells.1 tells.2))
told_whole operation (Some slips) is none a b k l w status answer files told (inr (inr e)) tells =
    let heard = subst (λ answer. HeardBy TellsLines BreaksLines (Some slips) operation a answer (log_state k 0) tells.0) e.0 tells.1 in
    let said = subst (λ answer. IsTold w answer tells.0.sink l status) e.0 tells.2 in
    let front = heard.front files told in
    inr (inr (said.0, subst (λ sink. FailsToSend (slip_lines (slips files)) k sink) (sym (said.1.0 refl)) (breaks_fails heard.told front.0 (slips files) k tells.0.sink front.1 heard.breaks)))

-- only `muxslip` tells slips, and none where it stops
none_told : (command : Command) → TellsWhenDone (operation_of command).tells (operation_of command)
none_told (MuxSlip chain) = λ files stop comes. ap (λ (answer : Answer). slips_where answer (slips_in chain (rows_in chain files))) comes
none_told (Demux chain bits) = tt
none_told (Mux chain feac) = tt
none_told (ClockCheck chain) = tt
none_told (ClockMake chain frames bias) = tt
none_told (Inspect chain bits) = tt
none_told InspectE1 = tt
none_told (Show chain frame) = tt
none_told E1Pack = tt
none_told E1Unpack = tt
none_told (Ds1Pack form) = tt
none_told (Ds1Unpack form) = tt
none_told (Disturb chain) = tt
none_told (Drill chain seed frames) = tt
none_told (Smooth chain) = tt
none_told (Duplex chain seed frames) = tt

-- and the run tells it
pub completes : (command : Option Command) (a b : ShelfState) (k l : SinkState) (v w : List State) (status : ℕ) → Runs command a b k l v w status → Completes command a b k l w status
completes None a b k l v w status runs = tt
completes (Some command) a b k l v w status runs = λ files told reads writes.
    told_whole (operation_of command) (operation_of command).tells refl (none_told command) a b k l w status runs.answer files told
    (exact (operation_of command) a b runs.answer files runs.does.cause runs.does.counted told reads writes) runs.told
