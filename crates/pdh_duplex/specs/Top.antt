-- What is told of a chain's top.
use Rattle.std.specs.Prelude.{ℕ, ◌-◌, ◌^◌, ◌||◌, min, Bool, false, is_some, List, [], ◌∷◌, count_by}
use Rattle.pdh_shape.specs.Frame.{FrameShape}
use Rattle.pdh_line.specs.Tracking.{track}
use Rattle.pdh_watch.specs.declared.kind.Kind.{Kind}
use Rattle.pdh_watch.specs.declared.kind.TheConstants.Kind.{PARITY, PATH_PARITY}
use Rattle.pdh_watch.specs.declared.event.Event.{Event}
use Rattle.pdh_events.specs.Duties.{last_frame}
use Rattle.pdh_telling.specs.Top.{is_of_top}

-- an event tells that the parity of a frame of the top is wrong
abbrev pub tells_error : Event → Bool
tells_error event = is_of_top PARITY event || is_of_top PATH_PARITY event

-- a count, which stands at the end of its type once there
abbrev pub counted : ℕ → ℕ
counted count = min count (2 ^ 64 - 1)

-- how many of these events are of the top and of this kind
abbrev pub count_of : Kind → List Event → ℕ
count_of kind events = counted (count_by (is_of_top kind) events)

-- the tracking of what the top has received ends in open frames
abbrev pub is_aligned : List FrameShape → List Bool → Bool
is_aligned [] got = false
is_aligned (s ∷ below) got = is_some (last_frame (track s got))
