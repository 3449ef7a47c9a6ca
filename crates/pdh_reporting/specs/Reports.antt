-- What the table tells of a node.
use Rattle.std.specs.Prelude.{◌≡◌, ℕ, nat_le, if◌then◌else◌, Bool, List, [], ◌∷◌, Option, Some, None}
use Rattle.pdh_event_counts.specs.declared.counts.Counts.{Counts}
use Rattle.pdh_health.specs.declared.node_health.NodeHealth.{NodeHealth}
use Rattle.pdh_report.specs.declared.node_report.NodeReport.{NodeReport}
use Rattle.pdh_report.specs.Troubles.{is_healthy}

-- the counts of its events
abbrev pub counts_told : NodeReport → Counts
counts_told report = record {
  aligned = report.aligned;
  lost = report.lost;
  ais = report.ais;
  alarm = report.alarm;
  parity = report.parity;
  path_parity = report.path_parity;
  febe = report.febe;
  feac = report.feac;
  crc = report.crc;
  ebit = report.ebit;
}

-- which seconds were unavailable can't be told of less than ten
abbrev pub unavailable_told : ℕ → ℕ → Option ℕ
unavailable_told seconds unavailable = (if nat_le 10 seconds then Some unavailable else None)

-- this health is told of it
pub record Tells (health : NodeHealth) (report : NodeReport) : Type 0 where
  pub frames_are : report.frames ≡ health.frames
  pub bad_are : report.bad ≡ health.bad
  pub counts_are : counts_told report ≡ health.counts
  pub out_is : report.out_bits ≡ health.course.out.bits
  pub longest_is : report.out_longest_bits ≡ health.course.out.longest
  pub ais_is : report.ais_bits ≡ health.course.ais.bits
  pub alarm_is : report.alarm_bits ≡ health.course.alarm.bits
  pub blocks_are : report.errored_blocks ≡ health.course.errored_blocks
  pub errored_are : report.es ≡ health.course.seconds.errored
  pub severe_are : report.ses ≡ health.course.seconds.severe
  pub far_are : report.far_es ≡ health.course.seconds.far
  pub unavailable_are : report.uas ≡ unavailable_told health.course.seconds.seconds health.course.seconds.unavailable
  pub too_short_is : report.too_short ≡ health.too_short

-- the health of each node is told, in order
abbrev pub AreTold : List NodeHealth → List NodeReport → Type 0
AreTold [] [] = Unit {0}
AreTold (health ∷ healths) (report ∷ reports) = Tells health report × AreTold healths reports
AreTold [] (report ∷ reports) = ⊥
AreTold (health ∷ healths) [] = ⊥

-- whether a line with this health of its nodes is healthy
abbrev pub IsVerdict : List NodeHealth → Bool → Type 0
IsVerdict healths healthy = (reports : List NodeReport) × AreTold healths reports × (healthy ≡ is_healthy reports)
