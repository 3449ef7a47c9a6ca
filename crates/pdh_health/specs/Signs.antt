-- What an event is to the course of its node, by its kind.
use Rattle.std.specs.Prelude.{◌||◌, if◌then◌else◌}
use Rattle.pdh_timeline.specs.declared.state.State.TheVariants.{Out, Ais, Alarm}
use Rattle.pdh_watch.specs.declared.kind.Kind.{Kind}
use Rattle.pdh_watch.specs.declared.kind.TheConstants.Kind.{ALIGNED, LOST, AIS_ON, AIS_OFF, ALARM_ON, ALARM_OFF, PARITY, PATH_PARITY, FEBE, FEAC, CRC, EBIT}
use Rattle.pdh_event_counts.specs.Counting.{is_kind}
use Rattle.pdh_health.specs.declared.sign.Sign.{Sign}
use Rattle.pdh_health.specs.declared.sign.Sign.TheVariants.{Begin, End, Block, Told, Coded, Other}

-- a loss begins the time out of alignment, and an alignment ends it
abbrev pub turn_of_kind : Kind → Sign
turn_of_kind kind =
    (if is_kind LOST kind then Begin Out else (if is_kind ALIGNED kind then End Out else
    (if is_kind AIS_ON kind then Begin Ais else (if is_kind AIS_OFF kind then End Ais else
    (if is_kind ALARM_ON kind then Begin Alarm else (if is_kind ALARM_OFF kind then End Alarm else Other))))))

-- wrong parity, path parity and checks are errored blocks
abbrev pub sign_of_kind : Kind → Sign
sign_of_kind kind =
    (if is_kind PARITY kind || is_kind PATH_PARITY kind || is_kind CRC kind then Block else
    (if is_kind FEBE kind || is_kind EBIT kind then Told else (if is_kind FEAC kind then Coded else turn_of_kind kind)))
