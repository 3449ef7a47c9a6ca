-- Bytes in memory that was taken before.
use Rattle.std.specs.Prelude.{ℕ, List}

-- bytes, and for how many bytes in all there is memory
pub record BufferState : Type 0 where
  pub bytes : List ℕ
  pub room : ℕ
