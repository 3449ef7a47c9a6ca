use Rattle.std.proofs.Common.{[], ap}
use Rattle.pdh_event_counts.specs.declared.counts.Counts.{Counts}
use Rattle.pdh_claims_of_health.proofs.event_counts.events_of_a_kind_counted_twice.Goals as goal

pub returns : goal.returns
returns c =
    let counts = c.plus.ensures [] c.none.ensures in
    ap (λ (n : Counts). n.aligned) counts
