use Rattle.std.proofs.Common.{[], ap}
use Rattle.pdh_event_counts.specs.declared.counts.Counts.{Counts}
use Rattle.pdh_claims_of_health.proofs.event_counts.losses_counted_as_alignments.Goals as goal

pub returns : goal.returns
returns c =
    let counts = c.plus.ensures [] c.none.ensures in
    record { aligned = ap (λ (n : Counts). n.aligned) counts; lost = ap (λ (n : Counts). n.lost) counts }
