-- The events of a line come in the order of their places, which are those of its bits.
use Rattle.std.proofs.Common.{ℕ, suc, ◌+◌, ◌<◌, ◌≤◌, Bool, List, [], ◌∷◌, ◌++◌, length, map, arith}
use Rattle.std.specs.Prelude.{fold}
use Rattle.pdh_watch.specs.declared.event.Event.{Event}
use Rattle.pdh_health.specs.Lines.{RiseFrom}
use Rattle.pdh_placed.specs.declared.placed.Placed.{Placed}
use Rattle.pdh_placed.specs.Places.{at_place, placed_events}

rise_below : (low place : ℕ) (events : List Placed) → low ≤ place → RiseFrom place events → RiseFrom low events
rise_below low place [] le rise = tt
rise_below low place (x ∷ events) le rise = (omega (arith, le, rise.0), rise.1)

-- the events of a bit come first
rise_here : (low place : ℕ) (here : List Event) (later : List Placed) → low ≤ place → RiseFrom place later → RiseFrom low (map (at_place place) here ++ later)
rise_here low place [] later le rise = rise_below low place later le rise
rise_here low place (event ∷ here) later le rise = (le, rise_here place place here later (omega arith) rise)

pub events_rise : (notes : List Bool → Bool → List Event) (line : List Bool) (low place : ℕ) (bits : List Bool) → low ≤ place → RiseFrom low (placed_events notes line place bits)
events_rise notes line low place [] le = tt
events_rise notes line low place (bit ∷ bits) le =
    rise_here low place (notes line bit) (placed_events notes (line ++ bit ∷ []) (suc place) bits) le
    (rise_below place (suc place) (placed_events notes (line ++ bit ∷ []) (suc place) bits) (omega arith) (events_rise notes (line ++ bit ∷ []) (suc place) (suc place) bits (omega arith)))

-- the place of the last event, or this one where there is none
abbrev last_from : ℕ → List Placed → ℕ
last_from place events = fold (λ place placed. placed.place) place events

last_here : (first place bound : ℕ) (here : List Event) (later : List Placed) → first < bound → place < bound
    → ((first : ℕ) → first < bound → last_from first later < bound) → last_from first (map (at_place place) here ++ later) < bound
last_here first place bound [] later lt within rest = rest first lt
last_here first place bound (event ∷ here) later lt within rest = last_here place place bound here later within within rest

pub events_within : (notes : List Bool → Bool → List Event) (line : List Bool) (first place bound : ℕ) (bits : List Bool) → first < bound → place + length bits ≤ bound
    → last_from first (placed_events notes line place bits) < bound
events_within notes line first place bound [] lt le = lt
events_within notes line first place bound (bit ∷ bits) lt le =
    let more : suc place + length bits ≤ bound = omega (arith, le) in
    last_here first place bound (notes line bit) (placed_events notes (line ++ bit ∷ []) (suc place) bits) lt (omega (arith, more))
    (λ now within. events_within notes (line ++ bit ∷ []) now (suc place) bound bits within more)
