use Rattle.std.proofs.Common.{[], ap, ◌∙◌, arith}
use Rattle.pdh_rx.specs.Meaning.{Meaning}
use Rattle.pdh_tests_of_desync.proofs.FourSmooth.{lists_for_one}
use Rattle.pdh_tests_of_desync.proofs.desync.lines_and_what_comes_out.Goals as goal

pub take_watched-requires-clause-stands : goal.take_watched-requires-clause-stands
take_watched-requires-clause-stands g c = ([], c.in_ok-node.ensures.stands)

pub take_watched-requires-clause-lists : goal.take_watched-requires-clause-lists
take_watched-requires-clause-lists g c = lists_for_one _ _ (ap (λ (m : Meaning). m.leaves) c.in_ok-node.ensures.meaning) c.in_ok-port.ensures

pub output-requires : goal.output-requires
output-requires g c = ap (λ h. h 0) c.take_watched.ensures.drained.2 ∙ c.in_ok-port.ensures 0 (omega arith)

pub output-requires-in-loop-zeros : goal.output-requires-in-loop-zeros
output-requires-in-loop-zeros g c = ap (λ h. h 4) c.take_watched.ensures.drained.2 ∙ c.in_ok-port.ensures 4 (omega arith)
