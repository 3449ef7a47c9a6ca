-- Slips as they are told, and what a log that keeps them in a list has then.
use Rattle.std.specs.Prelude.{◌≡◌, ◌≤◌, ℕ, Bool, List, [], ◌∷◌, ◌++◌}
use Rattle.pdh_shape.specs.declared.place.Place.{Place}
use Rattle.pdh_slips.specs.declared.slip.Slip.{Slip}

-- an overflow or an underflow at a place
abbrev pub slip_at : Bool → Place → Slip
slip_at over place = record { over = over; place = place }

-- these slips were put behind those of a list, and the count of faults didn't fall
pub record Kept (old : List Slip) (before : ℕ) (slips new : List Slip) (after : ℕ) : Type 0 where
  pub list : new ≡ old ++ slips
  pub counts : before ≤ after

-- the same, but for the last of them, which wasn't kept
pub record KeptFront (old : List Slip) (before : ℕ) (slips new : List Slip) (after : ℕ) : Type 0 where
  pub kept : List Slip
  pub last : Slip
  pub all : slips ≡ kept ++ last ∷ []
  pub list : new ≡ old ++ kept
  pub counts : before ≤ after
