-- What a recorded line shows, and what is counted of it.
use Rattle.std.specs.Prelude.{Bool, List}
use Rattle.pdh_watch.specs.declared.event.Event.{Event}
use Rattle.pdh_rx.specs.declared.counts.NodeCounts.{NodeCounts}
use Rattle.pdh_rx.specs.Meaning.{Meaning}

pub record LineMeaning : Type 0 where
  -- the events that one more bit brings, after these bits
  pub notes : List Bool → Bool → List Event
  -- what its nodes counted, by these bits
  pub counted : List Bool → List NodeCounts

-- those of the line that a demultiplexer receives
abbrev pub line_meaning : Meaning → LineMeaning
line_meaning m = record { notes = m.notes; counted = m.counted }
