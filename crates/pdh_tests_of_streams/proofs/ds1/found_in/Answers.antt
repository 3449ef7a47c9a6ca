use Rattle.std.proofs.Common.{ap, ◌∙◌}
use Rattle.pdh_tests_of_streams.proofs.ds1.found_in.Goals as goal

pub output-requires : goal.output-requires
output-requires c = ap (λ h. h 0) c.in_ok-counts.ensures ∙ c.in_ok-port.ensures
