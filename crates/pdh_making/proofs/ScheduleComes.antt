-- What the step that reads a schedule finds, and the commands that begin with it.
use Rattle.std.proofs.Common.{◌≡◌, ℕ, ◌<◌, ◌≤◌, nat_lt, List, [], Option, None, Some, Ok, Err, true, false, length, refl, ap, sym, ◌∙◌, subst, inl, inr, arith}
use Rattle.std.specs.Option.{option_map}
use Rattle.std.specs.Prelude.{unwrap_or, nat_le, Result}
use Rattle.std.proofs.lemmas.Bool.Decides.{nat_tests}
use Rattle.pdh_edge.specs.declared.shelf.Call.TheVariants.{Read as ReadCall}
use Rattle.pdh_edge.specs.Files.{ShelfState, WhereTold, Holds, FailsToRead}
use Rattle.pdh_edge.specs.Files.Told.{Known}
use Rattle.pdh_clock.specs.Row.{Row}
use Rattle.pdh_clock.specs.Judged.{schedule_of, Fails}
use Rattle.pdh_clock.specs.declared.fault.ScheduleFault.{ScheduleFault}
use Rattle.pdh_clock.specs.declared.fault.ScheduleFault.TheVariants.{TooLong, BadRow as RowIsBad, UnknownNode as NodeIsUnknown, CountOver as CountIsOver, Memory as NoMemory}
use Rattle.pdh_answers.specs.Names.{schedule_name}
use Rattle.pdh_answers.specs.Answer.{Answer, and_then, stop_of_fault}
use Rattle.pdh_runner.specs.Reading.{HasLength, IsReadStop}
use Rattle.pdh_making.specs.Schedules.{rows_of, rows_or_stop, is_text_due}
use Rattle.pdh_runner.specs.Operation.{Operation, Files, bytes_in, AreTold, OfInputs, IsReadDue, all_held}
use Rattle.pdh_runner.specs.Performing.{Comes, FailsInTurn, FailsEarly}
use Rattle.pdh_runner.proofs.Refusing.{read_stop}
use Rattle.pdh_runner.specs.Refusing.{Refuses}
use Rattle.pdh_making.specs.ScheduleSteps.{RowsAre, IsScheduleStop}
use Rattle.pdh_answers.specs.declared.file.File.{File}
use Rattle.pdh_answers.specs.declared.file.File.TheVariants.{Schedule}
use Rattle.pdh_answers.specs.declared.answer.Stop.{Stop}
use Rattle.pdh_answers.specs.declared.answer.Stop.TheVariants.{Memory, Read, LongSchedule, BadRow, UnknownNode, CountOver}
use Rattle.pdh_chain.specs.declared.chain.Chain.{Chain}
use Rattle.pdh_chain.specs.Chains.{levels_of}
use Rattle.pdh_shape.specs.OwnNumbers.{most_bytes}

-- ---- the step

long_rows : (chain : Chain) (text : List ℕ) → most_bytes < length text → rows_of chain text ≡ Err LongSchedule
unfolding rows_of schedule_of
long_rows chain text h = let test : nat_lt most_bytes (length text) ≡ true = grind (arith, nat_tests) in rw test refl

short_text : (held : Option (List ℕ)) (bytes : ℕ) → Some bytes ≡ option_map length held → bytes ≤ most_bytes → length (unwrap_or held []) ≤ most_bytes
short_text None bytes e few = absurd (cc)
short_text (Some text) bytes e few = let same : bytes ≡ length text = cc in omega arith

pub long_stops : (chain : Chain) (a : ShelfState) (bytes : ℕ) → HasLength schedule_name bytes a → most_bytes < bytes → RowsAre chain a (Err LongSchedule)
long_stops chain a bytes known long text told =
    let e : Some bytes ≡ Some (length text) = known.told (Some text) told in
    let same : bytes ≡ length text = cc in
    long_rows chain text (subst (λ n. most_bytes < n) same long)

pub read_stops : (chain : Chain) (a b : ShelfState) (bytes : ℕ) (stop : Stop) → HasLength schedule_name bytes a → bytes ≤ most_bytes → IsReadStop Schedule a b stop → IsScheduleStop chain a b stop
read_stops chain a b bytes stop known few cause = elim (read_stop Schedule a b stop cause) [
  | inl none ↦ subst (IsScheduleStop chain a b) (sym none) tt
  | inr fails ↦ subst (IsScheduleStop chain a b) (sym fails.0) (refl, fails.1, λ held told. short_text held bytes (known.told held told) few)
]

-- the text that was read is the schedule's
text_is : (a : ShelfState) (read text : List ℕ) → Holds (a.told schedule_name) read → a.told schedule_name ≡ Known (Some text) → text ≡ read
text_is a read text holds told = ap (λ (h : Option (List ℕ)). unwrap_or h []) (holds (Some text) told)

rows_fail : (chain : Chain) (text : List ℕ) (fault : ScheduleFault) → schedule_of (levels_of chain) text ≡ Err fault → rows_of chain text ≡ Err (stop_of_fault fault)
unfolding rows_of
rows_fail chain text fault e = ap rows_or_stop e

rows_found : (chain : Chain) (text : List ℕ) (rows : List Row) → schedule_of (levels_of chain) text ≡ Ok rows → rows_of chain text ≡ Ok rows
unfolding rows_of
rows_found chain text rows e = ap rows_or_stop e

pub rows_read : (chain : Chain) (a : ShelfState) (read : List ℕ) (rows : List Row) → Holds (a.told schedule_name) read → schedule_of (levels_of chain) read ≡ Ok rows → RowsAre chain a (Ok rows)
rows_read chain a read rows holds said text told = ap (rows_of chain) (text_is a read text holds told) ∙ rows_found chain read rows said

fault_read : (chain : Chain) (a : ShelfState) (read : List ℕ) (fault : ScheduleFault) → Holds (a.told schedule_name) read → schedule_of (levels_of chain) read ≡ Err fault → RowsAre chain a (Err (stop_of_fault fault))
fault_read chain a read fault holds said text told = ap (rows_of chain) (text_is a read text holds told) ∙ rows_fail chain read fault said

pub fault_stops : (chain : Chain) (a b : ShelfState) (read : List ℕ) (fault : ScheduleFault) → Holds (a.told schedule_name) read → Fails fault (schedule_of (levels_of chain) read) → IsScheduleStop chain a b (stop_of_fault fault)
fault_stops chain a b read NoMemory holds said = tt
fault_stops chain a b read (TooLong len) holds said = fault_read chain a read (TooLong len) holds said
fault_stops chain a b read (RowIsBad line) holds said = fault_read chain a read (RowIsBad line) holds said
fault_stops chain a b read (NodeIsUnknown line) holds said = fault_read chain a read (NodeIsUnknown line) holds said
fault_stops chain a b read (CountIsOver line count most) holds said = fault_read chain a read (CountIsOver line count most) holds said

-- ---- a command that begins with the schedule

-- its text is due where all inputs are held and it isn't too long
pub text_due : (inputs : List File) (files : Files) → all_held inputs files ≡ Ok tt → length (bytes_in files schedule_name) ≤ most_bytes → is_text_due inputs files ≡ true
text_due inputs files held short = let test : nat_le (length (bytes_in files schedule_name)) most_bytes ≡ true = grind (arith, nat_tests) in rw (held, test) refl

-- input k is the schedule, whose text is due before the run where it isn't too long
pub record HasSchedule (operation : Operation) (k : ℕ) (a : ShelfState) : Type 0 where
  pub known : k < operation.inputs.count
  pub named : operation.inputs.name k ≡ schedule_name
  pub due : OfInputs operation a (λ files. length (bytes_in files schedule_name) ≤ most_bytes → IsReadDue operation Schedule files)
  pub early : operation.reads_in_run Schedule ≡ false

-- a call for its text failed in its turn
text_fails : (operation : Operation) (k : ℕ) (a b : ShelfState) → HasSchedule operation k a → FailsToRead ReadCall schedule_name a b → WhereTold (a.told schedule_name) (λ held. length (unwrap_or held []) ≤ most_bytes) → FailsInTurn operation Schedule a b
text_fails operation k a b has fails short = record {
  at = k;
  known = has.known;
  named = sym has.named;
  how = inr (fails, λ files told. has.due files told (short (files schedule_name) (subst (λ name. a.told name ≡ Known (files name)) has.named (told k has.known))));
}

-- the text of the schedule is told, and the command comes to what its rows come to, or stops as they do
abbrev pub Begins : (chain : Chain) → Operation → (Files → List Row → Answer) → ShelfState → Type 0
Begins chain operation next a =
    (files : Files) → AreTold operation a.told files
    → (text : List ℕ) × (a.told schedule_name ≡ Known (Some text)) × (operation.comes_to files ≡ and_then (rows_of chain text) (next files))

comes : (chain : Chain) (operation : Operation) (next : Files → List Row → Answer) (a : ShelfState) (stop : Stop) → Begins chain operation next a → RowsAre chain a (Err stop) → Comes operation a (Err stop)
comes chain operation next a stop begins are files told =
    let t = begins files told in
    sym (t.2 ∙ ap (λ (r : Result (List Row) Stop). and_then r (next files)) (are t.0 t.1))

pub schedule_refuses : (chain : Chain) (operation : Operation) (next : Files → List Row → Answer) (k : ℕ) (a b : ShelfState) (stop : Stop) → Begins chain operation next a → HasSchedule operation k a → IsScheduleStop chain a b stop → Refuses operation a b stop
schedule_refuses chain operation next k a b Memory begins has cause = tt
schedule_refuses chain operation next k a b (Read file) begins has cause =
    subst (λ f. FailsInTurn operation f a b × FailsEarly operation f a b) (sym cause.0) (text_fails operation k a b has cause.1 cause.2, inr has.early)
schedule_refuses chain operation next k a b LongSchedule begins has cause = comes chain operation next a LongSchedule begins cause
schedule_refuses chain operation next k a b (BadRow l) begins has cause = comes chain operation next a (BadRow l) begins cause
schedule_refuses chain operation next k a b (UnknownNode l) begins has cause = comes chain operation next a (UnknownNode l) begins cause
schedule_refuses chain operation next k a b (CountOver l n m) begins has cause = comes chain operation next a (CountOver l n m) begins cause
schedule_refuses chain operation next k a b stop begins has cause = absurd cause

-- and with rows it comes to what they come to
pub comes_on : (chain : Chain) (operation : Operation) (next : Files → List Row → Answer) (a : ShelfState) (rows : List Row) (files : Files) → Begins chain operation next a → RowsAre chain a (Ok rows) → AreTold operation a.told files →
    operation.comes_to files ≡ next files rows
comes_on chain operation next a rows files begins are told =
    let t = begins files told in
    t.2 ∙ ap (λ (r : Result (List Row) Stop). and_then r (next files)) (are t.0 t.1)
