-- What a watch saw of some events.
use Rattle.std.specs.Prelude.{◌≡◌, List, ◌++◌}
use Rattle.pdh_watch.specs.declared.event.Event.{Event}

-- a watch saw these events up to one of them
abbrev pub SawPart : {W : Type 0} → (W → List Event → W → Type 0) → W → List Event → W → Type 0
SawPart saw old events new = (seen rest : List Event) × (events ≡ seen ++ rest) × saw old seen new
