-- What a search for alignment keeps beside the bits that it holds, and what it tells of them.
use Rattle.std.specs.Prelude.{◌≡◌, ℕ, ◌%◌, ◌≤◌, Bool, false, ◌&&◌, Option, IfSome, List, ◌++◌, length, drop}
use Rattle.pdh_shape.specs.Frame.{FrameShape, is_right}
use Rattle.pdh_line.specs.Tracking.{frame_of, is_confirmed}
use Rattle.pdh_phases.specs.Keeping.{Kept, StandsFor}

-- what contracts see of it
pub record Sought : Type 0 where
  -- what the phases keep, where the shape's frame begins with its alignment signal
  pub phases : Option Kept
  -- the phase of the oldest position that is held
  pub oldest : ℕ

abbrev pub sought_of : Option Kept → ℕ → Sought
sought_of phases oldest = record { phases = phases; oldest = oldest }

-- of the bits since the search began some positions were passed over, and the bits from the next one on are held
pub record Searches (s : FrameShape) (search : Sought) (held since : List Bool) : Type 0 where
  pub passed : ℕ
  pub within : passed ≤ length since
  pub held_is : held ≡ drop passed since
  -- the phases stand for all of them
  pub phases : IfSome search.phases (λ kept. StandsFor s kept since)
  -- and the oldest position's phase is the number of those that were passed over, modulo the slots of a frame
  pub oldest : search.oldest ≡ passed % s.len

-- the search took more bits, which are held
abbrev pub Takes : FrameShape → Sought → Sought → List Bool → Type 0
Takes s old new more = (held since : List Bool) → Searches s old held since → Searches s new (held ++ more) (since ++ more)

-- the oldest positions were given up, so many
abbrev pub GivesUp : FrameShape → Sought → Sought → ℕ → Type 0
GivesUp s old new count = (held since : List Bool) → count ≤ length held → Searches s old held since → Searches s new (drop count held) since

-- the first two of the frames that stand from this place on of the bits that are held are right
abbrev pub two_right : FrameShape → List Bool → ℕ → Bool
two_right s held place = is_right s (frame_of s (drop place held) 0) && is_right s (frame_of s (drop place held) 1)

-- whatever bits follow, the position at this place of the bits that are held isn't confirmed
abbrev pub IsRejected : FrameShape → List Bool → ℕ → Type 0
IsRejected s held place = (more : List Bool) → is_confirmed s (drop place (held ++ more)) ≡ false
