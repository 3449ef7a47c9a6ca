use Rattle.std.proofs.Common.{◌+◌, [], ap, ◌∙◌, arith}
use Rattle.pdh_rx.specs.Meaning.{Meaning}
use Rattle.pdh_tests_of_desync.proofs.FourSmooth.{lists_for_each}
use Rattle.pdh_tests_of_desync.proofs.desync.eight_frames_come_out.Goals as goal

pub take_watched-requires-clause-stands : goal.take_watched-requires-clause-stands
take_watched-requires-clause-stands c = ([], c.in_ok-node.ensures.stands)

pub take_watched-requires-clause-lists : goal.take_watched-requires-clause-lists
take_watched-requires-clause-lists c = lists_for_each _ _ (ap (λ (m : Meaning). m.leaves) c.in_ok-node.ensures.meaning) c.in_ok-port.ensures

pub output-requires : goal.output-requires
output-requires c = ap (λ h. h c.loop-number.number) c.take_watched.ensures.drained.2 ∙ c.in_ok-port.ensures c.loop-number.number (omega arith)

pub output-requires-in-loop-number : goal.output-requires-in-loop-number
output-requires-in-loop-number c = ap (λ h. h (16 + c.loop-number.number)) c.take_watched.ensures.drained.2 ∙ c.in_ok-port.ensures (16 + c.loop-number.number) (omega arith)
