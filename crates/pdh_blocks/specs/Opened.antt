-- How a port over a shelf begins and ends.
use Rattle.std.specs.Prelude.{◌≡◌, ℕ, ◌+◌, ◌^◌, ◌<◌, ◌≤◌, true, false, List, [], ◌++◌, length, map, Bool, Option, Some, None, slice_get}
use Rattle.std.specs.declared.alloc.Global.{Global}
use Rattle.std.specs.declared.string.String.{String}
use Rattle.std.specs.String.{string_bytes}
use Rattle.pdh_edge.specs.Files.{ShelfState, WhereTold}
use Rattle.pdh_blocks.specs.declared.source.Source.{Source}
use Rattle.pdh_blocks.specs.Leaves.{Leaf, Output, IsReadable, bytes_for, unread}
use Rattle.pdh_blocks.specs.State.{PortState, output_names}
use Rattle.pdh_blocks.specs.Lists.{bits_in, outputs_of}
use Rattle.pdh_blocks.specs.Held.{AllDiffer}

-- ---- opening

abbrev pub source_name : Source → List ℕ
source_name source = string_bytes source.name

-- a file is held and has the bytes of so many bits
abbrev pub HasBytesFor : ℕ → Option (List ℕ) → Type 0
HasBytesFor bits None = ⊥
HasBytesFor bits (Some bytes) = bytes_for bits ≤ length bytes

-- a source's bytes may be read, and where its file is told, it is held and has them
pub record IsSource (shelf : ShelfState) (source : Source) : Type 0 where
  pub readable : IsReadable shelf (source_name source) source.bits
  pub told : WhereTold (shelf.told (source_name source)) (HasBytesFor source.bits)

-- all these sources are such, no name stands twice, and there are few enough of them
pub record CanOpen (shelf : ShelfState) (reads : List Source) (writes : List (String Global)) : Type 0 where
  pub sources : (k : ℕ) (source : Source) → slice_get reads k ≡ Some source → IsSource shelf source
  pub differ : AllDiffer (map source_name reads ++ map string_bytes writes)
  pub few : length reads + length writes < 2 ^ 32

abbrev pub unread_leaf : Source → Leaf
unread_leaf source = unread (source_name source) source.bits

abbrev pub unwritten : String Global → Output
unwritten name = record { name = string_bytes name; waiting = [] }

-- a port of which nothing was given or taken
abbrev pub opened : ShelfState → List Source → List (String Global) → PortState
opened shelf reads writes = record {
  shelf = shelf;
  leaves = map unread_leaf reads;
  outputs = map unwritten writes;
  called = 0;
  started = 0;
  fresh = true;
  ready = false;
  feed_faults = 0;
  drain_faults = 0;
  failed = None;
}

-- ---- the end

-- a list is the bits of bytes, and then fewer than make a byte
abbrev pub HasBytes : List Bool → List Bool → Type 0
HasBytes list bits = (rest : List Bool) × (list ≡ bits ++ rest) × (length rest < 8)

-- the files of the started outputs have all whole bytes of their lists, where these are told
abbrev pub IsWritten : PortState → Type 0
IsWritten port = (k : ℕ) (name : List ℕ) (list : List Bool) → slice_get (output_names port) k ≡ Some name → k < port.started → (outputs_of port).told k ≡ Some list → HasBytes list (bits_in (port.shelf.told name))
