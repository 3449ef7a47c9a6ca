-- How a list of bits grew.
use Rattle.std.specs.Prelude.{◌≡◌, ℕ, Bool, List, ◌++◌, length, drop}
use Rattle.pdh_bits.specs.BitOut.{BoundedBits}

-- the bits that stand behind those that stood there
abbrev pub gained : BoundedBits → BoundedBits → List Bool
gained old new = drop (length old.bits) new.bits

-- so many bits were appended, with the capacity as it was
pub record IsGrown (old new : BoundedBits) (added : ℕ) : Type 0 where
  pub capacity : new.capacity ≡ old.capacity
  pub bits : new.bits ≡ old.bits ++ gained old new
  pub count : length (gained old new) ≡ added
