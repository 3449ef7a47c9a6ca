-- What callers see of a `BitOut`.
use Rattle.std.specs.Prelude.{ℕ, Bool, List}

-- bits in order, the oldest first, and how many there may be
pub record BoundedBits : Type 0 where
  pub capacity : ℕ
  pub bits : List Bool
