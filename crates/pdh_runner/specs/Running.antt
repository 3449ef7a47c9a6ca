-- A command over a port: what its work is given, how it comes out, and what the monitors see of it.
use Rattle.std.specs.Prelude.{◌≡◌, ◌≢◌, ◌⊎◌, ℕ, ◌+◌, Bool, List, take, true, ⊤, Option, Some, None, Ok, slice_get}
use Rattle.pdh_bits.specs.Bits.{bits_of}
use Rattle.pdh_edge.specs.Counts.{one_more}
use Rattle.pdh_edge.specs.Files.{ShelfState, Range, TellsFailed}
use Rattle.pdh_blocks.specs.Leaves.{IsNextBlock}
use Rattle.pdh_blocks.specs.State.{PortState}
use Rattle.pdh_blocks.specs.Lists.{outputs_of}
use Rattle.pdh_blocks.specs.Kept.{IsReady, IsRefused}
use Rattle.pdh_watch.specs.declared.event.Event.{Event}
use Rattle.pdh_watch.specs.Monitors.{State}
use Rattle.pdh_answers.specs.Names.{name_of}
use Rattle.pdh_answers.specs.Answer.{Answer}
use Rattle.pdh_answers.specs.declared.file.File.{File}
use Rattle.pdh_runner.specs.Operation.{Operation, View, bytes_in, reaches_outputs}
use Rattle.pdh_runner.specs.Operation.View.{EventsOfFile, EventsOfAll}
use Rattle.pdh_runner.specs.Performing.{Comes, OfBeginning, SeeEvents}
use Rattle.pdh_runner.specs.PortFiles.{AreFiles, AreRead, IsOpenFor, PutsAll, PutsFront, opened_for}
use Rattle.pdh_runner.specs.declared.port.Input.{Input}
use Rattle.pdh_runner.specs.declared.running.Outcome.{Outcome}
use Rattle.pdh_runner.specs.declared.running.Outcome.TheVariants.{Whole, Memory, Failed, Unheard}

-- ---- what the work is given

-- a command that shows events writes nothing, and one that shows those of a file reads no other
abbrev pub IsAlone : Option View → Operation → List Input → Type 0
IsAlone None operation reads = ⊤
IsAlone (Some (EventsOfFile shown events_of)) operation reads = (operation.outputs.count ≡ 0) × ((k : ℕ) (input : Input) → slice_get reads k ≡ Some input → input.file ≡ shown)
IsAlone (Some (EventsOfAll events_of)) operation reads = operation.outputs.count ≡ 0

-- a fresh port that reads these files is open for a command
pub record IsGiven (operation : Operation) (begun : ShelfState) (reads : List Input) (port : PortState) : Type 0 where
  pub open_for : IsOpenFor operation begun port
  pub due : AreRead operation begun reads
  pub alone : IsAlone operation.shows operation reads

-- A port can be opened for these files, and it is what the work asks for; whichever state the command began with, the port is open
-- for it, and its lists are what the work takes them for.
pub record ArePrepared (operation : Operation) (opened : PortState → Type 0) (gives : ShelfState → PortState → Type 0) (state : ShelfState) (reads : List Input) (writes : List File) : Type 0 where
  pub files : AreFiles state reads writes
  pub port : opened (opened_for state reads writes)
  pub given : OfBeginning state (λ begun. IsGiven operation begun reads (opened_for state reads writes))
  pub lists : OfBeginning state (λ begun. gives begun (opened_for state reads writes))

-- ---- how it comes out

-- each output was started, unless there is none
abbrev pub AreStarted : Operation → PortState → Type 0
AreStarted operation port = IsReady port ⊎ (operation.outputs.count ≡ 0)

-- no call failed, what the outputs took makes all their bytes, and this is what the inputs come to behind the outputs
pub record IsDone (operation : Operation) (begun : ShelfState) (old new : PortState) (answer : Answer) : Type 0 where
  pub unread : new.feed_faults ≡ old.feed_faults
  pub unwritten : new.drain_faults ≡ old.drain_faults
  pub started : AreStarted operation new
  pub puts : PutsAll operation begun (outputs_of new)
  pub comes : Comes operation begun answer
  pub behind : reaches_outputs answer ≡ true

-- memory was wanting, and nothing was started
pub record IsUnstarted (old new : PortState) : Type 0 where
  pub fresh : new.fresh ≡ true
  pub unread : new.feed_faults ≡ old.feed_faults

-- a call that reads failed, and what the outputs took is a prefix of what makes all their bytes
pub record StopsReading (operation : Operation) (begun : ShelfState) (old new : PortState) : Type 0 where
  pub failed : new.feed_faults ≡ one_more old.feed_faults
  pub unwritten : new.drain_faults ≡ old.drain_faults
  pub started : AreStarted operation new
  pub puts : PutsFront operation begun (outputs_of new)

-- a call that writes failed
pub record StopsWriting (operation : Operation) (begun : ShelfState) (old new : PortState) : Type 0 where
  pub unread : new.feed_faults ≡ old.feed_faults
  pub failed : new.drain_faults ≡ one_more old.drain_faults
  pub left : IsReady new ⊎ IsRefused new
  pub puts : PutsFront operation begun (outputs_of new)

-- the log of a command that has slips to tell failed, no call did, and what the outputs took is a prefix of what makes all their bytes
pub record StopsTelling (operation : Operation) (begun : ShelfState) (old new : PortState) : Type 0 where
  pub tells : operation.tells ≢ None
  pub unread : new.feed_faults ≡ old.feed_faults
  pub unwritten : new.drain_faults ≡ old.drain_faults
  pub started : AreStarted operation new
  pub puts : PutsFront operation begun (outputs_of new)

abbrev pub ComesOut : Operation → ShelfState → PortState → PortState → Outcome → Type 0
ComesOut operation begun old new (Whole answer) = IsDone operation begun old new answer
ComesOut operation begun old new Memory = IsUnstarted old new
ComesOut operation begun old new Unheard = StopsTelling operation begun old new
ComesOut operation begun old new Failed = StopsReading operation begun old new ⊎ StopsWriting operation begun old new

-- a call of the port was counted that failed, where the work stopped by one
abbrev pub IsCountedBy : PortState → Outcome → Type 0
IsCountedBy port Failed = port.feed_faults + port.drain_faults ≢ 0
IsCountedBy port outcome = ⊤

-- ---- what the monitors see

-- they saw the events of exactly the bits that stand before the block of which the call failed
pub record SeesBefore (shown : File) (events_of : List Bool → List Event) (operation : Operation) (begun : ShelfState) (port : PortState) (before after : List State) : Type 0 where
  pub bits : ℕ
  pub range : Range
  pub block : IsNextBlock bits range
  pub asked : TellsFailed (port.shelf.tells_name (name_of shown)) range port.shelf.failed_range
  pub seen : SeeEvents operation begun (λ files. events_of (take bits (bits_of (bytes_in files (name_of shown))))) before after

-- they saw all events that a command shows, and whose work was done, or those; and else nothing
abbrev pub IsSeen : Option View → Operation → ShelfState → PortState → Outcome → List State → List State → Type 0
IsSeen (Some (EventsOfFile shown events_of)) operation begun port (Whole (Ok done)) before after = SeeEvents operation begun (λ files. events_of (bits_of (bytes_in files (name_of shown)))) before after
IsSeen (Some (EventsOfFile shown events_of)) operation begun port Failed before after = SeesBefore shown events_of operation begun port before after
IsSeen (Some (EventsOfAll events_of)) operation begun port (Whole (Ok done)) before after = SeeEvents operation begun events_of before after
IsSeen view operation begun port outcome before after = after ≡ before
