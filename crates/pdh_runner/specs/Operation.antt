-- A command as a record: what it reads and writes, what it comes to, and what it shows to the monitors and tells a log.
use Rattle.std.specs.Prelude.{◌≡◌, ℕ, ◌<◌, List, [], Bool, true, false, find, is_none, unwrap_or, Option, Result, Ok, Err}
use Rattle.std.specs.Option.{option_map_or}
use Rattle.pdh_edge.specs.Files.{Told, ShelfState}
use Rattle.pdh_edge.specs.Files.Told.{Known}
use Rattle.pdh_watch.specs.declared.event.Event.{Event}
use Rattle.pdh_slips.specs.declared.slip.Slip.{Slip}
use Rattle.pdh_answers.specs.Names.{name_of}
use Rattle.pdh_answers.specs.Answer.{Answer}
use Rattle.pdh_answers.specs.declared.file.File.{File}
use Rattle.pdh_answers.specs.declared.answer.Stop.{Stop}
use Rattle.pdh_answers.specs.declared.answer.Stop.TheVariants.{Missing, Overflow, Underflow, NoAlignment}

-- ---- the record

-- the bytes of each file that is held
abbrev pub Files : Type 0
Files = List ℕ → Option (List ℕ)

-- the bytes of a file, or none
abbrev pub bytes_in : Files → List ℕ → List ℕ
bytes_in files name = unwrap_or (files name) []

-- so many names, in order
pub record Names : Type 0 where
  pub count : ℕ
  pub name : ℕ → List ℕ

-- what monitors see: the events of a file, by its bits, as they are read; or events that all inputs give together, once the work
-- is done
pub data View : Type 0 where
  EventsOfFile : File → (List Bool → List Event) → View
  EventsOfAll : (Files → List Event) → View

pub record Operation : Type 0 where
  -- what it reads
  pub inputs : Names
  -- what it writes, in the order in which it starts them
  pub outputs : Names
  -- what its outputs hold in the end
  pub bytes : Files → ℕ → List ℕ
  -- its work, or the first refusal in the order of its steps, where no memory is wanting and no device fails
  pub comes_to : Files → Answer
  -- the bytes of a file are read in its run, behind the start of the outputs
  pub reads_in_run : File → Bool
  -- no step before the bytes of a file are read refuses the inputs
  pub is_due : File → Files → Bool
  -- what it shows to the monitors
  pub shows : Option View
  -- the slips that it tells a log, in order
  pub tells : Option (Files → List Slip)

-- ---- parts of records

abbrev pub no_names : Names
no_names = record { count = 0; name = λ _. [] }

abbrev pub one_name : List ℕ → Names
one_name name = record { count = 1; name = λ _. name }

-- no output has a byte
abbrev pub no_bytes : Files → ℕ → List ℕ
no_bytes files i = []

-- the bytes of all files are read in the run, or those of none
abbrev pub all_in_run : File → Bool
all_in_run file = true

abbrev pub none_in_run : File → Bool
none_in_run file = false

-- no step before the outputs refuses the inputs; an event of a store, and a line without an alignment, are told behind the
-- start of the outputs
abbrev pub reaches_outputs : Answer → Bool
reaches_outputs (Ok done) = true
reaches_outputs (Err (Overflow place)) = true
reaches_outputs (Err (Underflow place)) = true
reaches_outputs (Err (NoAlignment bits)) = true
reaches_outputs (Err stop) = false

-- the bytes of every file are read where nothing refuses before the outputs
abbrev pub due_at_outputs : (Files → Answer) → File → Files → Bool
due_at_outputs comes file files = reaches_outputs (comes files)

-- the first of the files that isn't held refuses the command
abbrev pub all_held : List File → Files → Result (Unit {0}) Stop
all_held inputs files = option_map_or (λ file. Err (Missing file)) (find (λ file. is_none (files (name_of file))) inputs) (Ok tt)

-- ---- what holds of an operation

-- what monitors see are events of this file
abbrev pub IsOfFile : File → View → Type 0
IsOfFile file (EventsOfFile shown events_of) = file ≡ shown
IsOfFile file (EventsOfAll events_of) = ⊥

-- its inputs are told, as these files
abbrev pub AreTold : Operation → (List ℕ → Told) → Files → Type 0
AreTold operation told files = (i : ℕ) → i < operation.inputs.count → told (operation.inputs.name i) ≡ Known (files (operation.inputs.name i))

-- where its inputs are told, this holds of them
abbrev pub OfInputs : Operation → ShelfState → (Files → Type 0) → Type 0
OfInputs operation state P = (files : Files) → AreTold operation state.told files → P files

-- the name is that of an output of it
abbrev pub IsOutput : Operation → List ℕ → Type 0
IsOutput operation name = (i : ℕ) × (i < operation.outputs.count) × (name ≡ operation.outputs.name i)

-- the first k inputs are held
abbrev pub AreHeld : Operation → ℕ → Files → Type 0
AreHeld operation k files = (i : ℕ) → i < k → is_none (files (operation.inputs.name i)) ≡ false

-- the bytes of a file are to be read
abbrev pub IsReadDue : Operation → File → Files → Type 0
IsReadDue operation file files = operation.is_due file files ≡ true
