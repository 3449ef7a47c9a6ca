-- What is true of each port over a shelf.
use Rattle.std.specs.Prelude.{◌≡◌, ◌≢◌, ℕ, ◌+◌, ◌*◌, ◌%◌, ◌^◌, ◌<◌, ◌≤◌, nat_eq, true, false, List, [], length, Some, is_none, slice_get}
use Rattle.std.specs.List.{All}
use Rattle.pdh_edge.specs.declared.shelf.Call.{Call}
use Rattle.pdh_edge.specs.declared.shelf.Call.TheVariants.{Read, Start, Append}
use Rattle.pdh_edge.specs.Files.{ShelfState, TellsFailed, Told}
use Rattle.pdh_edge.specs.Files.Told.{Untold, Known}
use Rattle.pdh_blocks.specs.Leaves.{Leaf, Output, block_bits, IsReadable, AreNext}
use Rattle.pdh_blocks.specs.State.{PortState, names, output_names}

-- no name stands twice among these
abbrev pub AllDiffer : List (List ℕ) → Type 0
AllDiffer names = (i j : ℕ) (name : List ℕ) → slice_get names i ≡ Some name → slice_get names j ≡ Some name → i ≡ j

-- ---- a leaf

-- these bytes have a leaf's bits, and those that wait are the next ones
pub record HasLeaf (leaf : Leaf) (bytes : List ℕ) : Type 0 where
  pub long : leaf.bits ≤ 8 * length bytes
  pub next : AreNext leaf leaf.waiting bytes

-- what is true of a leaf
pub record IsLeaf (shelf : ShelfState) (leaf : Leaf) : Type 0 where
  -- no bit waits that it hasn't
  pub within : leaf.given + length leaf.waiting ≤ leaf.bits
  -- what was read are whole blocks, but for the last
  pub whole : leaf.given + length leaf.waiting < leaf.bits → (leaf.given + length leaf.waiting) % block_bits ≡ 0
  -- its bits may be read
  pub readable : IsReadable shelf leaf.name leaf.bits
  -- where its file is told and held, it has these bits
  pub told : (bytes : List ℕ) → shelf.told leaf.name ≡ Known (Some bytes) → HasLeaf leaf bytes

-- ---- outputs

-- a file is told and held, and what it holds are bytes
abbrev pub HoldsBytes : Told → Type 0
HoldsBytes (Known (Some bytes)) = All (λ byte. byte < 256) bytes
HoldsBytes told = ⊥

-- for no output but one a whole block waits
abbrev pub HasRoomBut : ℕ → PortState → Type 0
HasRoomBut full port = (k : ℕ) (output : Output) → slice_get port.outputs k ≡ Some output → k ≢ full → length output.waiting < block_bits

-- for no output a whole block waits
abbrev pub HasRoom : PortState → Type 0
HasRoom port = (k : ℕ) (output : Output) → slice_get port.outputs k ≡ Some output → length output.waiting < block_bits

-- the other outputs are as before
abbrev pub ChangesOnly : ℕ → PortState → PortState → Type 0
ChangesOnly k old new = (j : ℕ) → j ≢ k → slice_get new.outputs j ≡ slice_get old.outputs j

-- for an output at most so many bits wait
abbrev pub WaitsAtMost : ℕ → ℕ → PortState → Type 0
WaitsAtMost most k port = (output : Output) → slice_get port.outputs k ≡ Some output → length output.waiting ≤ most

-- for no output a whole byte waits
abbrev pub AreWritten : PortState → Type 0
AreWritten port = (k : ℕ) → WaitsAtMost 7 k port

-- ---- the last call that failed

-- the last failed call of a shelf was one of this kind with this name, where the shelf tells it
abbrev pub IsLastCall : ShelfState → Call → List ℕ → Type 0
IsLastCall shelf call name = TellsFailed (shelf.tells_name name) (record { call = call; name = name }) shelf.last_failed

-- it was one of this kind with name i of a port
abbrev pub IsLastAt : PortState → Call → ℕ → Type 0
IsLastAt port call i = (name : List ℕ) → slice_get (names port) i ≡ Some name → IsLastCall port.shelf call name

-- What a port says of the shelf's last failed call, as it names name i: a source's name was read, an output was started or
-- appended to, and appended to once the port is ready. Where no call failed to take, it's a source, and where none failed to
-- give, it's an output.
pub record IsLastFailed (port : PortState) (i : ℕ) : Type 0 where
  pub within : i < length (names port)
  pub source : i < length port.leaves → IsLastAt port Read i
  pub output : length port.leaves ≤ i → ¬ IsLastAt port Start i → IsLastAt port Append i
  pub ready : length port.leaves ≤ i → port.ready ≡ true → IsLastAt port Append i
  pub fed : port.drain_faults ≡ 0 → i < length port.leaves
  pub drained : port.feed_faults ≡ 0 → length port.leaves ≤ i

-- a port names none exactly where none of its calls has failed
pub record NamesFailed (port : PortState) : Type 0 where
  pub none : is_none port.failed ≡ nat_eq (port.feed_faults + port.drain_faults) 0
  pub named : (i : ℕ) → port.failed ≡ Some i → IsLastFailed port i

-- ---- a port

-- what is true of each port, whatever waits for its outputs
pub record HoldsBlocks (port : PortState) : Type 0 where
  -- no name stands twice, and there are few enough of them
  pub differ : AllDiffer (names port)
  pub few : length (names port) < 2 ^ 32
  pub leaves : (k : ℕ) (leaf : Leaf) → slice_get port.leaves k ≡ Some leaf → IsLeaf port.shelf leaf
  -- no output's `start` was called before those of all earlier outputs have answered Ok
  pub in_order : port.called ≤ port.started + 1
  pub begun : port.started ≤ port.called
  pub among : port.called ≤ length port.outputs
  -- of a fresh port none was called, and nothing has failed to be taken; of one that is ready, all have answered Ok
  pub fresh : port.fresh ≡ true → (port.called ≡ 0) × (port.drain_faults ≡ 0)
  pub ready : port.ready ≡ true → length port.outputs ≤ port.started
  -- the file of a started output is held, where it is told once it is started, and else isn't told
  pub held : (k : ℕ) (name : List ℕ) → slice_get (output_names port) k ≡ Some name → k < port.started → port.shelf.tells_started name ≡ true → HoldsBytes (port.shelf.told name)
  pub untold : (k : ℕ) (name : List ℕ) → slice_get (output_names port) k ≡ Some name → k < port.started → port.shelf.tells_started name ≡ false → port.shelf.told name ≡ Untold
  -- nothing is appended to it before all are started
  pub empty : port.started < length port.outputs → (k : ℕ) (name : List ℕ) → slice_get (output_names port) k ≡ Some name → k < port.started → port.shelf.tells_started name ≡ true → port.shelf.told name ≡ Known (Some [])
  pub failed : NamesFailed port

-- what is true of each port
pub record IsPort (port : PortState) : Type 0 where
  pub blocks : HoldsBlocks port
  pub room : HasRoom port
