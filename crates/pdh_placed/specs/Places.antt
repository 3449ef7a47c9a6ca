-- The events of a line with their places.
use Rattle.std.specs.Prelude.{ℕ, suc, Bool, List, [], ◌∷◌, ◌++◌, map}
use Rattle.pdh_watch.specs.declared.event.Event.{Event}
use Rattle.pdh_placed.specs.declared.placed.Placed.{Placed}

abbrev pub at_place : ℕ → Event → Placed
at_place place event = record { event = event; place = place }

-- the events that these bits bring after this line, each with the place of the bit that brings it; the first of them has this place
abbrev pub placed_events : (List Bool → Bool → List Event) → List Bool → ℕ → List Bool → List Placed
placed_events notes line place [] = []
placed_events notes line place (bit ∷ bits) = map (at_place place) (notes line bit) ++ placed_events notes (line ++ bit ∷ []) (suc place) bits
