-- What a recorded 2048 kbit/s line shows and counts.
use Rattle.std.specs.Prelude.{◌*◌, Bool, List, [], ◌∷◌}
use Rattle.pdh_line.specs.Paths.{top}
use Rattle.pdh_events.specs.Telling.{next_bit}
use Rattle.pdh_g706.specs.Tracking.{multiframes_in, counted}
use Rattle.pdh_g706.specs.Events.{e1_bit_events}
use Rattle.pdh_rx.specs.declared.counts.NodeCounts.{NodeCounts}
use Rattle.pdh_placed.specs.Lines.{LineMeaning}

-- the frames of its delivered multiframes, 16 of each; none of them is judged by itself
abbrev pub e1_counts : List Bool → NodeCounts
e1_counts line = record { path = top; bits = next_bit line; frames = counted (16 * multiframes_in line); judged = record { frames = 0; right = 0 } }

abbrev pub e1_meaning : LineMeaning
e1_meaning = record { notes = e1_bit_events; counted = λ line. e1_counts line ∷ [] }
