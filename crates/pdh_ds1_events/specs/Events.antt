-- The events of a recorded DS1 line in superframes (ANSI T1.403): what each bit of it shows, in order (the order is this project's
-- own).
use Rattle.std.specs.Prelude.{Bool, ◌==◌, if◌then◌else◌, List, [], ◌∷◌, ◌++◌, length, drop, flat_map}
use Rattle.pdh_shape.specs.declared.role.Role.{Role}
use Rattle.pdh_watch.specs.declared.kind.Kind.{Kind}
use Rattle.pdh_watch.specs.declared.kind.TheConstants.Kind.{CRC}
use Rattle.pdh_watch.specs.declared.event.Event.{Event}
use Rattle.pdh_line.specs.Paths.{top}
use Rattle.pdh_line.specs.Tracking.{track}
use Rattle.pdh_events.specs.Telling.{next_bit, tell, ais_kinds}
use Rattle.pdh_events.specs.Acts.{alignment_kinds}
use Rattle.pdh_ds1.specs.declared.plan.SuperframePlan.{SuperframePlan}
use Rattle.pdh_ds1.specs.Superframe.{in_superframe}
use Rattle.pdh_ds1.specs.Receiving.{judged}

-- The superframes of the extended form, which has 24 frames, are checked: each one behind another of the same alignment, errored or
-- not, by the CRC-6 that it carries, which is that one's word. Those of the other form carry none.
abbrev pub verdicts : List Role → SuperframePlan → List Bool → List Bool
verdicts f_bits plan line = (if plan.frames == 24 then judged (in_superframe f_bits plan) line else [])

-- what they show
abbrev pub crc_kinds : List Bool → List Kind
crc_kinds verdicts = flat_map (λ errored. if errored then CRC ∷ [] else []) verdicts

-- what one more bit of a line shows: AIS, the alignment, and then the superframes that it delivers
unfoldable pub superframe_events : List Role → SuperframePlan → List Bool → Bool → List Event
superframe_events f_bits plan line bit =
    let s = in_superframe f_bits plan in
    let after = line ++ bit ∷ [] in
    tell top (next_bit line)
    (ais_kinds s.len line bit ++ alignment_kinds (track s line) (track s after) ++ crc_kinds (drop (length (verdicts f_bits plan line)) (verdicts f_bits plan after)))
