-- What contracts see of the far stores of all tributaries, and of a node of them.
use Rattle.std.specs.Prelude.{ℕ, List}
use Rattle.pdh_shape.specs.declared.place.Path.{Path}
use Rattle.pdh_align.specs.Aligning.{Held as AlignerHeld}
use Rattle.pdh_desync.specs.declared.leaves.Leaves.{Leaves}
use Rattle.pdh_desync.specs.Held.{Held}

-- the stores, one for each tributary, and the leaves to which they give out
pub record Stores : Type 0 where
  pub held : List Held
  pub leaves : Leaves

-- a node of far stores, without its events
pub record FarState : Type 0 where
  pub path : Path
  pub stores : Stores
  pub aligner : AlignerHeld
  -- how many positions of a gap were passed over since its last whole frame's length
  pub gap : ℕ
  -- how many frames were delivered
  pub frames : ℕ
