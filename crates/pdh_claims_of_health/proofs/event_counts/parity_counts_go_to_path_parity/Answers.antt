use Rattle.std.proofs.Common.{[], ap}
use Rattle.pdh_event_counts.specs.declared.counts.Counts.{Counts}
use Rattle.pdh_claims_of_health.proofs.event_counts.parity_counts_go_to_path_parity.Goals as goal

pub returns : goal.returns
returns c =
    let counts = c.plus.ensures [] c.none.ensures in
    record { path = ap (λ (n : Counts). n.path_parity) counts; parity = ap (λ (n : Counts). n.parity) counts }
