-- What an end keeps of the events of its top.
use Rattle.std.specs.Prelude.{ℕ, ◌&&◌, ◌||◌, not, if◌then◌else◌, Bool, false}
use Rattle.pdh_edge.specs.Counts.{one_more}
use Rattle.pdh_watch.specs.declared.kind.Kind.{Kind}
use Rattle.pdh_watch.specs.declared.kind.TheConstants.Kind.{ALIGNED, LOST, ALARM_ON, FEBE}
use Rattle.pdh_watch.specs.declared.event.Event.{Event}
use Rattle.pdh_duplex.specs.declared.tally.Tally.{Tally}
use Rattle.pdh_telling.specs.Top.{is_of_top}
use Rattle.pdh_duplex.specs.Top.{tells_error}

-- whether an alignment holds after one more event
abbrev pub aligned_with : Bool → Event → Bool
aligned_with aligned event = is_of_top ALIGNED event || (aligned && not (is_of_top LOST event))

-- a count of the events of the top of a kind, with one more event
abbrev pub counted_with : Kind → ℕ → Event → ℕ
counted_with kind count event = (if is_of_top kind event then one_more count else count)

-- before the first event
abbrev pub tally_none : Tally
tally_none = record { aligned = false; in_error = false; alarms = 0; febe = 0 }

-- with one more event
abbrev pub tally_with : Tally → Event → Tally
tally_with tally event = record {
  aligned = aligned_with tally.aligned event;
  in_error = tally.in_error || tells_error event;
  alarms = counted_with ALARM_ON tally.alarms event;
  febe = counted_with FEBE tally.febe event;
}
