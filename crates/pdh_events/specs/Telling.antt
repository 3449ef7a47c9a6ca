-- What is common to the events of all received lines: their places, what begins or ends, and runs of ones.
use Rattle.std.specs.Prelude.{ℕ, suc, ◌-◌, ◌^◌, min, Bool, true, false, nat_le, ◌==◌, if◌then◌else◌, List, [], ◌∷◌, length, map, reverse}
use Rattle.std.specs.List.{prefix_len}
use Rattle.pdh_shape.specs.declared.place.Path.{Path}
use Rattle.pdh_watch.specs.declared.kind.Kind.{Kind}
use Rattle.pdh_watch.specs.declared.kind.TheConstants.Kind.{AIS_ON, AIS_OFF}
use Rattle.pdh_watch.specs.declared.event.Event.{Event}

-- the number of a line's next bit, counted from 0; it stands at the end of its type
abbrev pub next_bit : List Bool → ℕ
next_bit line = min (length line) (2 ^ 64 - 1)

-- an event of this kind, of a bit of the line of the node at a path
abbrev pub event_of : Path → ℕ → Kind → Event
event_of path bit kind = record { kind = kind; path = path; bit = bit; value = 0 }

-- events of these kinds, in order
abbrev pub tell : Path → ℕ → List Kind → List Event
tell path bit kinds = map (event_of path bit) kinds

-- what shows where something begins or ends
abbrev pub changed : Kind → Kind → Bool → Bool → List Kind
changed on off was is = (if is then (if was then [] else on ∷ []) else (if was then off ∷ [] else []))

-- how many ones a line ends with
unfoldable pub ones_at_end : List Bool → ℕ
ones_at_end line = prefix_len (λ bit. bit) (reverse line)

-- AIS begins where a run of ones reaches this length, and ends with the first 0 after that (G.742 and G.704 send all ones;
-- the lengths are this project's own)
abbrev pub run_kinds : ℕ → ℕ → Bool → List Kind
run_kinds long ones true = (if suc ones == long then AIS_ON ∷ [] else [])
run_kinds long ones false = (if nat_le long ones then AIS_OFF ∷ [] else [])

-- what one more bit of a line shows of AIS
abbrev pub ais_kinds : ℕ → List Bool → Bool → List Kind
ais_kinds long line bit = run_kinds long (ones_at_end line) bit
