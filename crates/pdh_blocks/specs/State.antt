-- What a port over a shelf keeps: how far each of its lists has come.
use Rattle.std.specs.Prelude.{ℕ, Bool, List, ◌++◌, map, Option}
use Rattle.pdh_edge.specs.Files.{ShelfState}
use Rattle.pdh_blocks.specs.Leaves.{Leaf, Output}
use Rattle.pdh_blocks.specs.declared.blocks.Blocks.{Blocks}

-- what a leaf's bits come from: a file, and how many of its first bits the leaf has
pub record Origin : Type 0 where
  pub name : List ℕ
  pub bits : ℕ

-- a port with its shelf
pub record PortState : Type 0 where
  pub shelf : ShelfState
  pub leaves : List Leaf
  pub outputs : List Output
  -- the `start` of so many outputs was called, from the first on, and that of so many has answered Ok
  pub called : ℕ
  pub started : ℕ
  -- nothing was started or put so far
  pub fresh : Bool
  -- the port's own `start` has answered Ok
  pub ready : Bool
  -- how many of its calls failed to give, and how many failed to take
  pub feed_faults : ℕ
  pub drain_faults : ℕ
  -- which name the call of the shelf had that failed last
  pub failed : Option ℕ

-- a port that has these blocks, over a shelf
abbrev pub over : ShelfState → Blocks → PortState
over shelf blocks = record {
  shelf = shelf;
  leaves = blocks.leaves.items;
  outputs = blocks.outputs.items;
  called = blocks.called;
  started = blocks.started;
  fresh = blocks.fresh;
  ready = blocks.ready;
  feed_faults = blocks.feed_faults;
  drain_faults = blocks.drain_faults;
  failed = blocks.failed;
}

-- ---- names

abbrev pub leaf_name : Leaf → List ℕ
leaf_name leaf = leaf.name

abbrev pub output_name : Output → List ℕ
output_name output = output.name

abbrev pub origin_of : Leaf → Origin
origin_of leaf = record { name = leaf.name; bits = leaf.bits }

-- what the leaves of a port come from
abbrev pub origins : PortState → List Origin
origins port = map origin_of port.leaves

-- the names of its outputs
abbrev pub output_names : PortState → List (List ℕ)
output_names port = map output_name port.outputs

-- all its names: those that it reads, and then those that it writes
abbrev pub names : PortState → List (List ℕ)
names port = map leaf_name port.leaves ++ output_names port
