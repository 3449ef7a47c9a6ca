-- The events of a received line: what each bit of it shows, in order (the order is this project's own).
use Rattle.std.specs.Prelude.{ℕ, zero, suc, ◌+◌, ◌-◌, ◌*◌, ◌/◌, ◌%◌, Bool, false, not, nat_lt, nat_le, ◌&&◌, if◌then◌else◌, List, [], ◌∷◌, ◌++◌, length, drop, flat_map}
use Rattle.std.specs.List.{range_with_len}
use Rattle.pdh_watch.specs.declared.kind.Kind.{Kind}
use Rattle.pdh_watch.specs.declared.kind.TheConstants.Kind.{ALIGNED, LOST, ALARM_ON, ALARM_OFF, CRC, EBIT}
use Rattle.pdh_watch.specs.declared.event.Event.{Event}
use Rattle.pdh_line.specs.Paths.{top}
use Rattle.pdh_events.specs.Telling.{next_bit, tell, changed, ais_kinds}
use Rattle.pdh_events.specs.Chain.{bits_events}
use Rattle.pdh_g706.specs.Frames.{bit_of}
use Rattle.pdh_g706.specs.Alignment.{frame}
use Rattle.pdh_g706.specs.Tracking.{Signs, signs_in}

-- ---- what the far end tells, in the odd frames of delivered multiframes

-- odd frame i, counted from 0: frame 2 i + 1
abbrev pub odd_frame : List (List Bool) → ℕ → List Bool
odd_frame frames i = frame frames (2 * i + 1)

-- the A bit of an odd frame, its third one, is 1 (G.704, table 5A)
abbrev pub has_alarm : List Bool → Bool
has_alarm odd = bit_of odd 2

-- there is an alarm before odd frame i: the odd frame before it has one, or there was one before all these frames
abbrev pub alarm_before : Bool → List (List Bool) → ℕ → Bool
alarm_before alarm frames zero = alarm
alarm_before alarm frames (suc i) = has_alarm (odd_frame frames i)

-- there is an alarm after these frames
abbrev pub alarm_after : Bool → List (List Bool) → Bool
alarm_after alarm frames = alarm_before alarm frames (length frames / 2)

-- odd frame i is the 13th or 15th of its multiframe, counted from 0, and its E bit, the first one, is 0 (G.704, 2.3.3.4)
abbrev pub tells_error : List (List Bool) → ℕ → Bool
tells_error frames i = nat_le 6 (i % 8) && not (bit_of (odd_frame frames i) 0)

-- what odd frame i shows: the alarm begins or ends, and then the far end tells an errored block
unfoldable pub odd_kinds : Bool → List (List Bool) → ℕ → List Kind
odd_kinds alarm frames i =
    changed ALARM_ON ALARM_OFF (alarm_before alarm frames i) (has_alarm (odd_frame frames i)) ++ (if tells_error frames i then EBIT ∷ [] else [])

-- so many odd frames from this one on
abbrev pub frames_kinds : Bool → List (List Bool) → ℕ → ℕ → List Kind
frames_kinds alarm frames from count = flat_map (odd_kinds alarm frames) (range_with_len from count)

-- ---- the events of a bit

-- what shows where a count rises
abbrev pub rise : Kind → ℕ → ℕ → List Kind
rise kind before after = (if nat_lt before after then kind ∷ [] else [])

-- what judged blocks show: each one that is errored (G.706, 4.3)
abbrev pub crc_kinds : List Bool → List Kind
crc_kinds verdicts = flat_map (λ errored. if errored then CRC ∷ [] else []) verdicts

-- what is shown after a bit and wasn't before it: a loss of basic alignment or multiframe alignment (G.706, 4.1.1 and 4.2),
-- the judged blocks, the frames of delivered multiframes, and that the alignment is false (G.706, 4.3.2). Before the first
-- delivered frame there is no alarm.
unfoldable pub new_kinds : Signs → Signs → List Kind
new_kinds before after =
    rise LOST before.losses after.losses ++ rise ALIGNED before.alignments after.alignments ++ crc_kinds (drop (length before.verdicts) after.verdicts)
    ++ frames_kinds false after.frames (length before.frames / 2) (length after.frames / 2 - length before.frames / 2)
    ++ rise LOST before.false_alignments after.false_alignments

-- from how many ones on a run of them is AIS: two frames (this project's own)
abbrev pub ais_length : ℕ
ais_length = 512

-- what one more bit of a line shows: AIS first, whatever the alignment
unfoldable pub e1_bit_events : List Bool → Bool → List Event
e1_bit_events line bit = tell top (next_bit line) (ais_kinds ais_length line bit ++ new_kinds (signs_in line) (signs_in (line ++ bit ∷ [])))

-- the events of a line
unfoldable pub e1_events : List Bool → List Event
e1_events line = bits_events e1_bit_events [] line
