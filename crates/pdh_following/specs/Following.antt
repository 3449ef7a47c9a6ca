-- What is told of a recording that is followed as a line.
use Rattle.std.specs.Prelude.{◌≡◌, ℕ, ◌+◌, ◌<◌, ◌^◌, max, Bool, List, [], ◌++◌, length, map, Option, Some, None}
use Rattle.std.specs.declared.io.Write.{Ghosts as Writes}
use Rattle.pdh_watch.specs.declared.event.Event.{Event}
use Rattle.pdh_health.specs.declared.plan.NodePlan.{NodePlan}
use Rattle.pdh_health.specs.Lines.{IsFoundOfLine}
use Rattle.pdh_placed.specs.declared.placed.Placed.{Placed}
use Rattle.pdh_placed.specs.declared.placing.Placing.{Placing}
use Rattle.pdh_placed.specs.Lines.{LineMeaning}
use Rattle.pdh_placed.specs.Places.{placed_events}
use Rattle.pdh_recording.specs.Given.{Gives}
use Rattle.pdh_following.specs.declared.line.Followed.{Followed}
use Rattle.pdh_following.specs.declared.teller.Teller.{Teller}
use Rattle.pdh_following.specs.Numbers.{numbers_of}
use Rattle.pdh_following.specs.Rows.{header, rows_of, Gained}
use Rattle.pdh_following.specs.Telling.{Told}

-- A recording gave these bits to a line that had those in front, and each event that they bring was told, with the place of the bit
-- that brings it. `given` and `left` are the bits that the recording had and has, where they are known.
pub record Follows {W : Type 0} {writes : Writes W} (contents : W → Option (List ℕ)) (notes : List Bool → Bool → List Event) (front : List Bool)
    (given left : Option (List Bool)) (old new : Placing (Teller W writes)) (more : List Bool) : Type 0 where
  pub gives : Gives given left more
  pub place : new.place ≡ old.place + length more
  pub told : Told contents old.watch new.watch (placed_events notes front old.place more)

-- the same, of a line that then stands for all of these bits
abbrev pub GoesOn : {W : Type 0} {writes : Writes W} → (W → Option (List ℕ)) → (List Bool → Bool → List Event) → List Bool → (List Bool → Type 0) → Option (List Bool) → Option (List Bool)
    → Placing (Teller W writes) → Placing (Teller W writes) → Type 0
GoesOn contents notes front stands given left old new = (more : List Bool) × stands (front ++ more) × Follows contents notes front given left old new more

-- the bits of a recording, where they are known, are these
abbrev pub AreAll : Option (List Bool) → List Bool → Type 0
AreAll None bits = Unit {0}
AreAll (Some all) bits = all ≡ bits

-- the events of a line of these bits, each with the place of the bit that brings it
abbrev pub line_events : LineMeaning → List Bool → List Placed
line_events meaning bits = placed_events meaning.notes [] 0 bits

-- A line of these bits was followed to its end: the file, if one was wanted, has a row for each event, and the health of the nodes is
-- that of the events. A line with 2 ^ 63 events is left open.
pub record IsFollowed {W : Type 0} (contents : W → Option (List ℕ)) (meaning : LineMeaning) (rate from : ℕ) (plans : List NodePlan) (file : Option W) (bits : List Bool) (followed : Followed W) : Type 0 where
  pub count : followed.line.bits ≡ length bits
  pub rows : Gained contents contents file followed.events (header ++ rows_of rate from (line_events meaning bits))
  pub health : length (line_events meaning bits) < 2 ^ 63
      → IsFoundOfLine rate (max (length bits) 1) plans (map numbers_of (meaning.counted bits)) (line_events meaning bits) followed.line.health
