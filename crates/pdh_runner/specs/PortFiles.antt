-- The files of a command as the lists of a port: what it is opened for, and what it has come to.
use Rattle.std.specs.Prelude.{◌≡◌, ◌⊎◌, ℕ, ◌+◌, ◌^◌, ◌<◌, true, false, List, [], ◌++◌, length, map, Bool, Some, None, slice_get}
use Rattle.pdh_bits.specs.Bits.{bytes_of}
use Rattle.pdh_edge.specs.Files.{ShelfState, WhereTold, Looks}
use Rattle.pdh_edge.specs.Ports.{Outputs, IsPrefix}
use Rattle.pdh_blocks.specs.Leaves.{Leaf, Output, IsReadable, unread}
use Rattle.pdh_blocks.specs.State.{PortState, output_names}
use Rattle.pdh_blocks.specs.Lists.{outputs_of}
use Rattle.pdh_blocks.specs.Held.{AllDiffer}
use Rattle.pdh_blocks.specs.declared.source.Source.{Source}
use Rattle.pdh_blocks.specs.Opened.{HasBytesFor, unread_leaf}
use Rattle.pdh_answers.specs.Names.{name_of}
use Rattle.pdh_runner.specs.Operation.{Operation, OfInputs, IsReadDue}
use Rattle.pdh_runner.specs.Performing.{GoesOn}
use Rattle.pdh_answers.specs.declared.file.File.{File}
use Rattle.pdh_runner.specs.declared.port.Input.{Input}
use Rattle.pdh_answers.specs.declared.answer.Stop.{Stop}
use Rattle.pdh_answers.specs.declared.answer.Stop.TheVariants.{Read, Write}

-- ---- opening

-- so many first bits of a file may be read, and where it is told, it is held and has them
pub record HasBits (name : List ℕ) (bits : ℕ) (state : ShelfState) : Type 0 where
  pub told : WhereTold (state.told name) (HasBytesFor bits)
  pub readable : IsReadable state name bits

abbrev pub input_name : Input → List ℕ
input_name input = name_of input.file

-- a port can be opened for these files: what it reads is there, no name stands twice, and there are few enough
pub record AreFiles (state : ShelfState) (reads : List Input) (writes : List File) : Type 0 where
  pub has : (k : ℕ) (input : Input) → slice_get reads k ≡ Some input → HasBits (input_name input) input.bits state
  pub differ : AllDiffer (map input_name reads ++ map name_of writes)
  pub few : length reads + length writes < 2 ^ 32

-- a list that gives the first bits of a file, of which nothing was read
abbrev pub unread_file : Input → Leaf
unread_file input = unread (input_name input) input.bits

-- these are the sources of a port
abbrev pub AreSources : List Input → List Source → Type 0
AreSources reads sources = map unread_leaf sources ≡ map unread_file reads

-- a list that takes the bits of a file, of which none waits
abbrev pub unwritten_file : File → Output
unwritten_file file = record { name = name_of file; waiting = [] }

-- a port for these files of which nothing was given or taken
abbrev pub opened_for : ShelfState → List Input → List File → PortState
opened_for shelf reads writes = record {
  shelf = shelf;
  leaves = map unread_file reads;
  outputs = map unwritten_file writes;
  called = 0;
  started = 0;
  fresh = true;
  ready = false;
  feed_faults = 0;
  drain_faults = 0;
  failed = None;
}

-- ---- a call that failed

-- a port has lists for these files
pub record HasFiles (reads : List Input) (writes : List File) (port : PortState) : Type 0 where
  pub reads_are : map (λ (leaf : Leaf). leaf.name) port.leaves ≡ map input_name reads
  pub writes_are : output_names port ≡ map name_of writes

-- how a call that failed for the file of this number ends the command
abbrev pub IsStopAt : List Input → List File → ℕ → Stop → Type 0
IsStopAt reads writes i stop =
    ((input : Input) × (slice_get reads i ≡ Some input) × (stop ≡ Read input.file))
    ⊎ ((k : ℕ) × (file : File) × (i ≡ length reads + k) × (slice_get writes k ≡ Some file) × (stop ≡ Write file))

-- how the call of a port that failed last ends the command
abbrev pub IsStopOf : List Input → List File → PortState → Stop → Type 0
IsStopOf reads writes port stop = (i : ℕ) → port.failed ≡ Some i → IsStopAt reads writes i stop

-- ---- a port of a command

-- The files that a port reads are inputs of a command, read in its run, and due there.
pub record AreRead (operation : Operation) (old : ShelfState) (reads : List Input) : Type 0 where
  pub input : (k : ℕ) (input : Input) → slice_get reads k ≡ Some input → (at : ℕ) × (at < operation.inputs.count) × (input_name input ≡ operation.inputs.name at)
  pub in_run : (k : ℕ) (input : Input) → slice_get reads k ≡ Some input → operation.reads_in_run input.file ≡ true
  pub due : (k : ℕ) (input : Input) → slice_get reads k ≡ Some input → OfInputs operation old (IsReadDue operation input.file)

-- a port writes the outputs of a command
pub record WritesOutputs (operation : Operation) (port : PortState) : Type 0 where
  pub count : length port.outputs ≡ operation.outputs.count
  pub named : (k : ℕ) → k < operation.outputs.count → slice_get (output_names port) k ≡ Some (operation.outputs.name k)

-- A fresh port is open for a command, whose steps before it have looked at the files: none of them refuses.
pub record IsOpenFor (operation : Operation) (old : ShelfState) (port : PortState) : Type 0 where
  pub looks : Looks old port.shelf
  pub same : port.shelf.counts ≡ old.counts
  pub goes_on : GoesOn operation old
  pub writes : WritesOutputs operation port
  pub fresh : port.fresh ≡ true
  pub unread : port.feed_faults ≡ 0
  pub unwritten : port.drain_faults ≡ 0
  pub empty : (k : ℕ) (list : List Bool) → (outputs_of port).told k ≡ Some list → list ≡ []

-- what the lists of a command's outputs took makes all their bytes, where the inputs are told
abbrev pub PutsAll : Operation → ShelfState → Outputs → Type 0
PutsAll operation old lists = (k : ℕ) (list : List Bool) → k < operation.outputs.count → lists.told k ≡ Some list → OfInputs operation old (λ files. bytes_of list ≡ operation.bytes files k)

-- a list is a prefix of bits that make these bytes
abbrev pub IsFrontOf : List Bool → List ℕ → Type 0
IsFrontOf list bytes = (whole : List Bool) × IsPrefix list whole × (bytes_of whole ≡ bytes)

-- what they took is a prefix of what makes all their bytes
abbrev pub PutsFront : Operation → ShelfState → Outputs → Type 0
PutsFront operation old lists = (k : ℕ) (list : List Bool) → k < operation.outputs.count → lists.told k ≡ Some list → OfInputs operation old (λ files. IsFrontOf list (operation.bytes files k))
