-- What a command does: why it answers, what it leaves of the files, and what the monitors see.
use Rattle.std.specs.Prelude.{◌≡◌, ◌≢◌, ◌⊎◌, ℕ, ◌<◌, List, [], take, ⊤, true, false, Option, Some, None, Result, Ok, Err}
use Rattle.pdh_bits.specs.Bits.{bits_of}
use Rattle.pdh_edge.specs.Files.{ShelfState, Looks, Counts, with_read_fault, with_write_fault, with_miss, Range, FailsToRead, FailsToReadRange, FailsToWrite, Holds, HoldsPrefix, told_empty}
use Rattle.pdh_edge.specs.declared.shelf.Call.TheVariants.{Size as SizeCall, Read as ReadCall, Start as StartCall, Append as AppendCall}
use Rattle.pdh_blocks.specs.Leaves.{IsNextBlock}
use Rattle.pdh_watch.specs.declared.event.Event.{Event}
use Rattle.pdh_watch.specs.Monitors.{State, SawEach}
use Rattle.pdh_answers.specs.Names.{name_of}
use Rattle.pdh_answers.specs.Answer.{Answer}
use Rattle.pdh_runner.specs.Operation.View.{EventsOfFile, EventsOfAll}
use Rattle.pdh_runner.specs.Operation.{Operation, View, OfInputs, IsOutput, reaches_outputs, AreHeld, IsReadDue, Files, bytes_in}
use Rattle.pdh_answers.specs.declared.file.File.{File}
use Rattle.pdh_answers.specs.declared.answer.Stop.{Stop}
use Rattle.pdh_answers.specs.declared.answer.Stop.TheVariants.{Memory, Usage, Read, Write, Missing, Overflow, Underflow, NoAlignment, Unheard}

-- ---- why a command answers

-- where its inputs are told, this is what the command comes to
abbrev pub Comes : Operation → ShelfState → Answer → Type 0
Comes operation old answer = OfInputs operation old (λ files. answer ≡ operation.comes_to files)

-- no step before the outputs refuses the inputs
abbrev pub GoesOn : Operation → ShelfState → Type 0
GoesOn operation old = OfInputs operation old (λ files. reaches_outputs (operation.comes_to files) ≡ true)

-- A call for a file failed to read in its turn: the file is an input of the command; where the call asked for its size, the
-- inputs before it are held, and where it asked for its bytes, they were due.
pub record FailsInTurn (operation : Operation) (file : File) (old new : ShelfState) : Type 0 where
  pub at : ℕ
  pub known : at < operation.inputs.count
  pub named : name_of file ≡ operation.inputs.name at
  pub how : (FailsToRead SizeCall (name_of file) old new × OfInputs operation old (AreHeld operation at)) ⊎ (FailsToRead ReadCall (name_of file) old new × OfInputs operation old (IsReadDue operation file))

-- Why a command stops. Want of memory has no cause here; a call that failed to read did so in its turn; one that failed to
-- write did so behind all steps that refuse the inputs, and so did a log that failed, of a command that has
-- slips to tell; every other stop is what the inputs come to.
abbrev pub IsCause : Operation → ShelfState → ShelfState → Stop → Type 0
IsCause operation old new Memory = ⊤
IsCause operation old new Usage = ⊥
IsCause operation old new (Read file) = FailsInTurn operation file old new
IsCause operation old new (Write file) = GoesOn operation old
IsCause operation old new Unheard = GoesOn operation old × (operation.tells ≢ None)
IsCause operation old new stop = Comes operation old (Err stop)

abbrev pub HasCause : Operation → ShelfState → ShelfState → Answer → Type 0
HasCause operation old new (Ok done) = Comes operation old (Ok done)
HasCause operation old new (Err stop) = IsCause operation old new stop

-- ---- what is counted

-- one fault or one miss where the command stops by it, and else nothing
abbrev pub with_stop : Stop → Counts → Counts
with_stop (Read file) counts = with_read_fault counts
with_stop (Write file) counts = with_write_fault counts
with_stop (Missing file) counts = with_miss counts
with_stop stop counts = counts

abbrev pub counts_after : {T : Type 0} → Result T Stop → Counts → Counts
counts_after (Ok x) counts = counts
counts_after (Err stop) counts = with_stop stop counts

-- a step, or a command, counted that
abbrev pub IsCounted : {T : Type 0} → ShelfState → ShelfState → Result T Stop → Type 0
IsCounted old new result = new.counts ≡ counts_after result old.counts

-- ---- what it leaves of the files

-- output i has all its bytes
abbrev pub IsWhole : Operation → ShelfState → ShelfState → ℕ → Type 0
IsWhole operation old new i = OfInputs operation old (λ files. Holds (new.told (operation.outputs.name i)) (operation.bytes files i))

-- it has a prefix of its bytes
abbrev pub IsBegun : Operation → ShelfState → ShelfState → ℕ → Type 0
IsBegun operation old new i = OfInputs operation old (λ files. HoldsPrefix (new.told (operation.outputs.name i)) (operation.bytes files i))

-- it is empty
abbrev pub IsEmpty : Operation → ShelfState → ℕ → Type 0
IsEmpty operation new i = Holds (new.told (operation.outputs.name i)) []

-- it is as before
abbrev pub IsSame : Operation → ShelfState → ShelfState → ℕ → Type 0
IsSame operation old new i = new.told (operation.outputs.name i) ≡ old.told (operation.outputs.name i)

-- each output has all its bytes
abbrev pub AreWhole : Operation → ShelfState → ShelfState → Type 0
AreWhole operation old new = (i : ℕ) → i < operation.outputs.count → IsWhole operation old new i

-- each output was started, and has a prefix of its bytes
abbrev pub AreBegun : Operation → ShelfState → ShelfState → Type 0
AreBegun operation old new = (i : ℕ) → i < operation.outputs.count → IsBegun operation old new i

-- the start of output k failed: those before it are empty, it is as before or empty, and the later ones are as before
pub record StopsAtStart (operation : Operation) (k : ℕ) (old new : ShelfState) : Type 0 where
  pub fails : FailsToWrite StartCall (operation.outputs.name k) old new
  pub before : (i : ℕ) → i < k → IsEmpty operation new i
  pub here : IsSame operation old new k ⊎ (new.told (operation.outputs.name k) ≡ told_empty new (operation.outputs.name k))
  pub later : (i : ℕ) → k < i → i < operation.outputs.count → IsSame operation old new i

-- an append to output k failed: each output was started, and has a prefix of its bytes
pub record StopsAtAppend (operation : Operation) (k : ℕ) (old new : ShelfState) : Type 0 where
  pub fails : FailsToWrite AppendCall (operation.outputs.name k) old new
  pub begun : AreBegun operation old new

-- a call failed to write to a file, which is an output of the command
pub record AreCut (operation : Operation) (file : File) (old new : ShelfState) : Type 0 where
  pub at : ℕ
  pub known : at < operation.outputs.count
  pub named : name_of file ≡ operation.outputs.name at
  pub how : StopsAtStart operation at old new ⊎ StopsAtAppend operation at old new

-- a call for a file failed before the run: one for its size, or one for bytes that are read before the outputs are started
abbrev pub FailsEarly : Operation → File → ShelfState → ShelfState → Type 0
FailsEarly operation file old new = FailsToRead SizeCall (name_of file) old new ⊎ (operation.reads_in_run file ≡ false)

-- a call for the bytes of a file failed in the run
pub record FailsLate (operation : Operation) (file : File) (old new : ShelfState) : Type 0 where
  pub in_run : operation.reads_in_run file ≡ true
  pub fails : FailsToRead ReadCall (name_of file) old new

-- How a call that failed to read leaves the files: before the run as they were; in it each output is started, and has a prefix
-- of its bytes.
abbrev pub AreLeftUnread : Operation → File → ShelfState → ShelfState → Type 0
AreLeftUnread operation file old new = (FailsEarly operation file old new × (new.told ≡ old.told)) ⊎ (FailsLate operation file old new × AreBegun operation old new)

-- How an answer leaves the files. What was done, an event of a store and a line without an alignment leave whole outputs; a
-- call that failed to write leaves them cut, and so does one that failed to read in the run, and a log that failed; every other stop
-- leaves the files as they were.
abbrev pub AreLeft : Operation → ShelfState → ShelfState → Answer → Type 0
AreLeft operation old new (Ok done) = AreWhole operation old new
AreLeft operation old new (Err (Overflow place)) = AreWhole operation old new
AreLeft operation old new (Err (Underflow place)) = AreWhole operation old new
AreLeft operation old new (Err (NoAlignment bits)) = AreWhole operation old new
AreLeft operation old new (Err (Read file)) = AreLeftUnread operation file old new
AreLeft operation old new (Err (Write file)) = AreCut operation file old new
AreLeft operation old new (Err Unheard) = AreBegun operation old new
AreLeft operation old new (Err stop) = new.told ≡ old.told

-- all files but those with such names are told as before
abbrev pub ChangesOnly : (List ℕ → Type 0) → ShelfState → ShelfState → Type 0
ChangesOnly may old new = (name : List ℕ) → ¬ may name → new.told name ≡ old.told name

-- what a command does to the shelf
pub record Performs (operation : Operation) (old new : ShelfState) (answer : Answer) : Type 0 where
  pub cause : HasCause operation old new answer
  pub outputs : AreLeft operation old new answer
  pub others : ChangesOnly (IsOutput operation) old new
  pub counted : IsCounted old new answer

-- This holds of the state that a command began with, whichever it was, where its steps since then looked at files at most, and
-- none of them was counted.
abbrev pub OfBeginning : ShelfState → (ShelfState → Type 0) → Type 0
OfBeginning now P = (begun : ShelfState) → Looks begun now → now.counts ≡ begun.counts → P begun

-- ---- what the monitors see

-- the monitors saw the events of the command's input, each of them all, in order
abbrev pub SeeEvents : Operation → ShelfState → (Files → List Event) → List State → List State → Type 0
SeeEvents operation old events_of before after = (events : List Event) × SawEach before events after × OfInputs operation old (λ files. events ≡ events_of files)

-- A call for a block of the input failed: they saw the events of exactly the bits that stand before that block.
pub record SeeBlocksBefore (operation : Operation) (file : File) (old new : ShelfState) (events_of : ℕ → Files → List Event) (before after : List State) : Type 0 where
  pub bits : ℕ
  pub range : Range
  pub block : IsNextBlock bits range
  pub fails : FailsToReadRange (name_of file) range old new
  pub seen : SeeEvents operation old (events_of bits) before after

-- what the monitors saw where a call for the input failed: nothing where it asked for the size, and else the events of the
-- bits before the block that it asked for
abbrev pub SeeUnread : Operation → File → ShelfState → ShelfState → (ℕ → Files → List Event) → List State → List State → Type 0
SeeUnread operation file old new events_of before after =
    (FailsToRead SizeCall (name_of file) old new × (after ≡ before)) ⊎ SeeBlocksBefore operation file old new events_of before after

-- A command that shows the events of a file and did its work showed the monitors them all, and one of which a call for a block of the
-- file failed those of the bits before the block. One that shows events which all inputs give together showed them all when its
-- work was done. Every other run leaves the monitors as they were.
abbrev pub WatchedBy : Option View → Operation → ShelfState → ShelfState → Answer → List State → List State → Type 0
WatchedBy (Some (EventsOfFile shown events_of)) operation old new (Ok done) before after = SeeEvents operation old (λ files. events_of (bits_of (bytes_in files (name_of shown)))) before after
WatchedBy (Some (EventsOfFile shown events_of)) operation old new (Err (Read file)) before after = SeeUnread operation file old new (λ n files. events_of (take n (bits_of (bytes_in files (name_of shown))))) before after
WatchedBy (Some (EventsOfAll events_of)) operation old new (Ok done) before after = SeeEvents operation old events_of before after
WatchedBy view operation old new answer before after = after ≡ before

abbrev pub IsWatched : Operation → ShelfState → ShelfState → Answer → List State → List State → Type 0
IsWatched operation old new answer before after = WatchedBy operation.shows operation old new answer before after
