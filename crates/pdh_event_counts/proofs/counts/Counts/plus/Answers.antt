use Rattle.std.proofs.Common.{ap, ◌∙◌}
use Rattle.pdh_watch.specs.declared.kind.TheConstants.Kind.{ALIGNED, LOST, AIS_ON, ALARM_ON, PARITY, PATH_PARITY, FEBE, FEAC, CRC, EBIT}
use Rattle.pdh_event_counts.specs.declared.counts.Counts.{Counts}
use Rattle.pdh_event_counts.proofs.Pushing.{counted_push}
use Rattle.pdh_event_counts.proofs.counts.Counts.plus.Goals as goal

pub returns : goal.returns
returns c kinds is = λ i. record {
  aligned = (c.count-aligned.ensures ∙ counted_push ALIGNED c.args.kind kinds c.args.self.aligned (ap (λ (counts : Counts). counts.aligned) is)) i;
  lost = (c.count-lost.ensures ∙ counted_push LOST c.args.kind kinds c.args.self.lost (ap (λ (counts : Counts). counts.lost) is)) i;
  ais = (c.count-ais.ensures ∙ counted_push AIS_ON c.args.kind kinds c.args.self.ais (ap (λ (counts : Counts). counts.ais) is)) i;
  alarm = (c.count-alarm.ensures ∙ counted_push ALARM_ON c.args.kind kinds c.args.self.alarm (ap (λ (counts : Counts). counts.alarm) is)) i;
  parity = (c.count-parity.ensures ∙ counted_push PARITY c.args.kind kinds c.args.self.parity (ap (λ (counts : Counts). counts.parity) is)) i;
  path_parity = (c.count-path_parity.ensures ∙ counted_push PATH_PARITY c.args.kind kinds c.args.self.path_parity (ap (λ (counts : Counts). counts.path_parity) is)) i;
  febe = (c.count-febe.ensures ∙ counted_push FEBE c.args.kind kinds c.args.self.febe (ap (λ (counts : Counts). counts.febe) is)) i;
  feac = (c.count-feac.ensures ∙ counted_push FEAC c.args.kind kinds c.args.self.feac (ap (λ (counts : Counts). counts.feac) is)) i;
  crc = (c.count-crc.ensures ∙ counted_push CRC c.args.kind kinds c.args.self.crc (ap (λ (counts : Counts). counts.crc) is)) i;
  ebit = (c.count-ebit.ensures ∙ counted_push EBIT c.args.kind kinds c.args.self.ebit (ap (λ (counts : Counts). counts.ebit) is)) i;
}
