-- The events of a whole chain.
use Rattle.std.specs.Prelude.{ℕ, suc, Bool, ◌==◌, if◌then◌else◌, List, [], ◌∷◌, ◌++◌}
use Rattle.pdh_shape.specs.declared.place.Path.{Path}
use Rattle.pdh_shape.specs.Frame.{FrameShape}
use Rattle.pdh_watch.specs.declared.event.Event.{Event}
use Rattle.pdh_line.specs.Paths.{top}
use Rattle.pdh_line.specs.Receiving.{received}
use Rattle.pdh_events.specs.Acts.{bit_acts, acts_events}

-- the path of the tributary of that number, from 0; a node two steps below the top has leaves alone, which have no path
abbrev pub child_path : Path → ℕ → Path
child_path path j =
    if path.depth == 0 then record { depth = 1; first = suc j; second = 0 } else (if path.depth == 1 then record { depth = 2; first = path.first; second = suc j } else path)

-- What one more bit of the received line of the node at this path shows, by the frames from the node's own down: what the
-- node notes, and what each of its tributaries that is a node shows by the bits that it gets.
unfoldable pub bit_events : List FrameShape → Path → List Bool → Bool → List Event
bit_events [] path line bit = []
bit_events (s ∷ below) path line bit = acts_events (λ j. bit_events below (child_path path j)) (λ j. received s j line) (bit_acts s path line bit)

-- the events that these bits bring, one after another, after this line
abbrev pub bits_events : (List Bool → Bool → List Event) → List Bool → List Bool → List Event
bits_events notes line [] = []
bits_events notes line (bit ∷ bits) = notes line bit ++ bits_events notes (line ++ bit ∷ []) bits

-- the events of a chain whose top's received line this is
unfoldable pub chain_events : List FrameShape → List Bool → List Event
chain_events shapes line = bits_events (bit_events shapes top) [] line
