-- What contracts see of the far store of one tributary.
use Rattle.std.specs.Prelude.{ℕ, ◌+◌, Bool, true, List, replicate}
use Rattle.pdh_shape.specs.OwnNumbers.{threshold}

pub record Held : Type 0 where
  -- the bits, the oldest first
  pub bits : List Bool
  -- how many of the ones with which it begins were not read
  pub ones : ℕ
  -- how many bits it has room for where a piece comes
  pub room : ℕ

-- one that holds the ones with which it begins, where a frame carries so many bits of a tributary at least
abbrev pub fresh_store : ℕ → Held
fresh_store low = record { bits = replicate threshold true; ones = threshold; room = threshold + (low + 1) }
