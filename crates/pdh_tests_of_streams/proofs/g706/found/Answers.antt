use Rattle.std.proofs.Common.{ap, ◌∙◌}
use Rattle.pdh_tests_of_streams.proofs.g706.found.Goals as goal

pub output-requires : goal.output-requires
output-requires c = ap (λ h. h 0) c.take_all.ensures.holds ∙ c.in_ok-port.ensures
