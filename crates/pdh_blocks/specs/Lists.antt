-- The lists of a port over a shelf.
use Rattle.std.specs.Prelude.{ℕ, ◌-◌, Bool, nat_lt, if◌then◌else◌, List, [], ◌++◌, length, take, drop, Option, Some, None, slice_get}
use Rattle.std.specs.Option.{option_and_then, option_map_or}
use Rattle.pdh_bits.specs.Bits.{bits_of}
use Rattle.pdh_edge.specs.Files.{Told}
use Rattle.pdh_edge.specs.Files.Told.{Known}
use Rattle.pdh_edge.specs.Ports.{Inputs, Outputs}
use Rattle.pdh_blocks.specs.Leaves.{Leaf, Output, block_bits}
use Rattle.pdh_blocks.specs.State.{PortState}

-- ---- what it gives

-- how many bits of a leaf are left
abbrev pub left_of : Leaf → ℕ
left_of leaf = leaf.bits - leaf.given

-- what is left of a leaf's bits, which are the first of its file, where the file is told
abbrev pub rest_of : Told → Leaf → Option (List Bool)
rest_of (Known (Some bytes)) leaf = Some (drop leaf.given (take leaf.bits (bits_of bytes)))
rest_of told leaf = None

abbrev pub rest_in : PortState → Leaf → Option (List Bool)
rest_in port leaf = rest_of (port.shelf.told leaf.name) leaf

-- leaf k's list is what is left of its source
abbrev pub inputs_of : PortState → Inputs
inputs_of port = record {
  holds = λ k. nat_lt k (length port.leaves);
  left = λ k. option_map_or left_of (slice_get port.leaves k) 0;
  told = λ k. option_and_then (rest_in port) (slice_get port.leaves k);
}

-- how many bits wait of these leaves
abbrev pub waiting_of : Leaf → ℕ
waiting_of leaf = length leaf.waiting

abbrev pub waits_in : List Leaf → ℕ → ℕ
waits_in leaves k = option_map_or waiting_of (slice_get leaves k) 0

-- how many bits of leaf k's list are in the block that was read last
abbrev pub waits_of : PortState → ℕ → ℕ
waits_of port = waits_in port.leaves

-- ---- what it takes

-- the bits of a file that is told and held
abbrev pub bits_in : Told → List Bool
bits_in (Known (Some bytes)) = bits_of bytes
bits_in told = []

-- the bits in the file of output k, once it was started
abbrev pub appended : PortState → ℕ → Output → List Bool
appended port k output = if nat_lt k port.started then bits_in (port.shelf.told output.name) else []

-- what was put to output k, where its file is told once it is started: the bits in the file, and then those that wait
abbrev pub put_in : PortState → ℕ → Output → Option (List Bool)
put_in port k output = if port.shelf.tells_started output.name then Some (appended port k output ++ output.waiting) else None

-- output k's list is what was put to it
abbrev pub outputs_of : PortState → Outputs
outputs_of port = record {
  holds = λ k. nat_lt k (length port.outputs);
  told = λ k. option_and_then (put_in port k) (slice_get port.outputs k);
}

-- how many bits an output takes before its block is full
abbrev pub room_of : Output → ℕ
room_of output = block_bits - 1 - length output.waiting

-- the same of output k
abbrev pub room_in : PortState → ℕ → ℕ
room_in port k = option_map_or room_of (slice_get port.outputs k) 0
