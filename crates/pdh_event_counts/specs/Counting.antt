-- How many events of each kind there are.
use Rattle.std.specs.Prelude.{ℕ, ◌+◌, ◌-◌, ◌^◌, min, Bool, ◌==◌, if◌then◌else◌, List, count_by}
use Rattle.pdh_watch.specs.declared.kind.Kind.{Kind}
use Rattle.pdh_watch.specs.declared.kind.TheConstants.Kind.{ALIGNED, LOST, AIS_ON, ALARM_ON, PARITY, PATH_PARITY, FEBE, FEAC, CRC, EBIT}
use Rattle.pdh_event_counts.specs.declared.counts.Counts.{Counts}

-- an event of a kind, among events of these kinds
abbrev pub is_kind : Kind → Kind → Bool
is_kind wanted kind = kind.0 == wanted.0

-- how many there are of a kind; a count that reaches its type's end stands there
abbrev pub counted : Kind → List Kind → ℕ
counted wanted kinds = min (count_by (is_kind wanted) kinds) (2 ^ 64 - 1)

-- a count of a kind, after one more event of some kind
abbrev pub count_with : Kind → ℕ → Kind → ℕ
count_with wanted number kind = (if is_kind wanted kind then min (number + 1) (2 ^ 64 - 1) else number)

abbrev pub counts_of : List Kind → Counts
counts_of kinds = record {
  aligned = counted ALIGNED kinds;
  lost = counted LOST kinds;
  ais = counted AIS_ON kinds;
  alarm = counted ALARM_ON kinds;
  parity = counted PARITY kinds;
  path_parity = counted PATH_PARITY kinds;
  febe = counted FEBE kinds;
  feac = counted FEAC kinds;
  crc = counted CRC kinds;
  ebit = counted EBIT kinds;
}
