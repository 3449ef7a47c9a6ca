-- Room for the bits of a piece of a frame.
use Rattle.std.specs.Prelude.{◌≡◌, ℕ, ◌+◌, ◌*◌, ◌≤◌, All, length}
use Rattle.pdh_shape.specs.OwnNumbers.{store_size}
use Rattle.pdh_tx.specs.declared.scratch.Scratch.{Scratch}

-- it has room for the pieces of a frame of so many slots, and of so many tributaries with `low` information slots each
pub record HasRoom (len tribs low : ℕ) (scratch : Scratch) : Type 0 where
  -- for what a store holds and what arrives in a frame
  pub queue : len + store_size ≤ scratch.queue.capacity
  -- for each tributary its information slots and a justifiable slot
  pub count : length scratch.columns.items ≡ tribs
  pub columns : All (λ column. low + 1 ≤ column.capacity) scratch.columns.items
  -- for the slots that are no payload slots, and for those that are
  pub overhead : len ≤ scratch.overhead.capacity
  pub payload : tribs * (low + 1) ≤ scratch.payload.capacity
