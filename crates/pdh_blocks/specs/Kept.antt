-- What the calls of a port over a shelf may change.
use Rattle.std.specs.Prelude.{◌≡◌, ◌⊎◌, ℕ, zero, suc, ◌+◌, ◌^◌, ◌<◌, ◌≤◌, true, List, length, Some, slice_get}
use Rattle.pdh_edge.specs.declared.shelf.Call.TheVariants.{Start}
use Rattle.pdh_edge.specs.Counts.{one_more}
use Rattle.pdh_edge.specs.Files.{ShelfState, TouchesOnly, told_empty}
use Rattle.pdh_blocks.specs.State.{PortState, origins, output_names}
use Rattle.pdh_blocks.specs.Lists.{inputs_of, outputs_of}
use Rattle.pdh_blocks.specs.Held.{IsLastCall}

-- it is the name of an output
abbrev pub IsOutput : PortState → List ℕ → Type 0
IsOutput port name = (k : ℕ) × (slice_get (output_names port) k ≡ Some name)

-- a count after so many more
abbrev pub more : ℕ → ℕ → ℕ
more zero count = count
more (suc n) count = one_more (more n count)

-- A count of a port and a count of its shelf rose by the same number, and unless that is 0, they fitted their type before.
pub record RiseTogether (old_port new_port old_shelf new_shelf : ℕ) : Type 0 where
  pub by : ℕ
  pub port : new_port ≡ more by old_port
  pub shelf : new_shelf ≡ more by old_shelf
  pub port_fits : 0 < by → old_port < 2 ^ 64
  pub shelf_fits : 0 < by → old_shelf < 2 ^ 64

-- the file of a name is as before, or empty
abbrev pub IsAsBeforeOrEmpty : List ℕ → ShelfState → ShelfState → Type 0
IsAsBeforeOrEmpty name old new = (new.told name ≡ old.told name) ⊎ (new.told name ≡ told_empty new name)

-- what any calls of a port leave
pub record Keeps (old new : PortState) : Type 0 where
  -- each call that failed was counted by the port and by its shelf, and there are no more misses
  pub reads : RiseTogether old.feed_faults new.feed_faults old.shelf.counts.read_faults new.shelf.counts.read_faults
  pub writes : RiseTogether old.drain_faults new.drain_faults old.shelf.counts.write_faults new.shelf.counts.write_faults
  pub misses : new.shelf.counts.misses ≡ old.shelf.counts.misses
  -- names, sources and every file other than the outputs are as before
  pub origins : origins new ≡ origins old
  pub outputs : output_names new ≡ output_names old
  pub others : TouchesOnly (IsOutput old) old.shelf new.shelf
  -- an output whose `start` was called, or has answered Ok, stays such a one
  pub called : old.called ≤ new.called
  pub started : old.started ≤ new.started
  -- one whose `start` wasn't called is as before
  pub uncalled : (k : ℕ) (name : List ℕ) → slice_get (output_names new) k ≡ Some name → new.called ≤ k → new.shelf.told name ≡ old.shelf.told name
  -- one whose `start` hasn't answered Ok is as before or empty
  pub unstarted : (k : ℕ) (name : List ℕ) → slice_get (output_names new) k ≡ Some name → new.started ≤ k → IsAsBeforeOrEmpty name old.shelf new.shelf
  -- what is ready stays so
  pub ready : old.ready ≡ true → new.ready ≡ true

-- what calls that only give bits leave
pub record Feeds (old new : PortState) : Type 0 where
  pub keeps : Keeps old new
  pub outputs : outputs_of new ≡ outputs_of old
  pub drain_faults : new.drain_faults ≡ old.drain_faults
  pub fresh : new.fresh ≡ old.fresh

-- what calls that only take bits leave
pub record Drains (old new : PortState) : Type 0 where
  pub keeps : Keeps old new
  pub inputs : inputs_of new ≡ inputs_of old
  pub leaves : new.leaves ≡ old.leaves
  pub feed_faults : new.feed_faults ≡ old.feed_faults

-- the `start` of a port has answered Ok, and so has that of each of its outputs
pub record IsReady (port : PortState) : Type 0 where
  pub said : port.ready ≡ true
  pub all : length port.outputs ≤ port.started

-- The `start` of a port has failed at the `start` of the first output that isn't started, and that was the shelf's last failed call.
pub record IsRefused (port : PortState) : Type 0 where
  pub failed : port.failed ≡ Some (length port.leaves + port.started)
  pub called : port.called ≡ port.started + 1
  pub among : port.started < length port.outputs
  pub last : (name : List ℕ) → slice_get (output_names port) port.started ≡ Some name → IsLastCall port.shelf Start name
