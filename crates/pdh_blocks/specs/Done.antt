-- What a port has done after a call.
use Rattle.std.specs.Prelude.{◌≡◌, ℕ, ◌<◌, Bool, List, length, Some, slice_get, Result, OnOk, OnErr}
use Rattle.pdh_edge.specs.declared.shelf.Call.TheVariants.{Read}
use Rattle.pdh_edge.specs.Files.{Range, TellsFailed}
use Rattle.pdh_edge.specs.Ports.{Puts, PutsPart, HasCause, nothing}
use Rattle.pdh_blocks.specs.Leaves.{Leaf, IsNextBlock}
use Rattle.pdh_blocks.specs.State.{PortState}
use Rattle.pdh_blocks.specs.Lists.{inputs_of, outputs_of}
use Rattle.pdh_blocks.specs.Held.{IsPort, IsLastCall}
use Rattle.pdh_blocks.specs.Kept.{Feeds, Drains}

-- it read at most, and gave nothing
pub record ReadsAtMost (old new : PortState) : Type 0 where
  pub port : IsPort new
  pub feeds : Feeds old new
  pub inputs : inputs_of new ≡ inputs_of old
  pub outputs : new.outputs ≡ old.outputs

-- a bit of this leaf waits
abbrev pub HasWaiting : ℕ → PortState → Type 0
HasWaiting k port = (leaf : Leaf) → slice_get port.leaves k ≡ Some leaf → 0 < length leaf.waiting

-- The call for a leaf's next block has failed, it was the shelf's last failed call, where the shelf tells it, and no bit of the
-- leaf was given since.
pub record IsUnread (port : PortState) (k : ℕ) : Type 0 where
  pub range : Range
  pub block : (leaf : Leaf) → slice_get port.leaves k ≡ Some leaf → IsNextBlock leaf.given range
  pub last : (leaf : Leaf) → slice_get port.leaves k ≡ Some leaf → IsLastCall port.shelf Read leaf.name
  pub asked : (leaf : Leaf) → slice_get port.leaves k ≡ Some leaf → TellsFailed (port.shelf.tells_name leaf.name) range port.shelf.failed_range

-- it started outputs at most, and left all lists as they are
pub record StartsAtMost {T E : Type 0} (old new : PortState) (result : Result T E) : Type 0 where
  pub port : IsPort new
  pub drains : Drains old new
  pub lists : outputs_of new ≡ outputs_of old
  pub outputs : new.outputs ≡ old.outputs
  pub cause : HasCause old.drain_faults new.drain_faults result

-- it appended what waited, which leaves all lists as they are, unless a call failed
pub record AppendsWaiting {T E : Type 0} (old new : PortState) (result : Result T E) : Type 0 where
  pub port : IsPort new
  pub drains : Drains old new
  pub ok : OnOk result (outputs_of new ≡ outputs_of old)
  pub err : OnErr result (PutsPart nothing (outputs_of old) (outputs_of new))
  pub cause : HasCause old.drain_faults new.drain_faults result

-- it put these bits, or a part of them where a call failed
pub record PutsBits {T E : Type 0} (bits : ℕ → List Bool) (old new : PortState) (result : Result T E) : Type 0 where
  pub port : IsPort new
  pub drains : Drains old new
  pub ok : OnOk result (Puts bits (outputs_of old) (outputs_of new))
  pub err : OnErr result (PutsPart bits (outputs_of old) (outputs_of new))
  pub cause : HasCause old.drain_faults new.drain_faults result
