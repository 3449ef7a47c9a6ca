-- The events of a chain's top.
use Rattle.std.specs.Prelude.{◌==◌, ◌&&◌, Bool}
use Rattle.pdh_watch.specs.declared.kind.Kind.{Kind}
use Rattle.pdh_watch.specs.declared.event.Event.{Event}

-- an event is one of the top, of this kind
abbrev pub is_of_top : Kind → Event → Bool
is_of_top kind event = (event.path.depth == 0) && (event.kind.0 == kind.0)
