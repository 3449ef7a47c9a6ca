use Rattle.std.proofs.Common.{ap, ◌∙◌}
use Rattle.pdh_rx.specs.Meaning.{Meaning}
use Rattle.pdh_tests_of_receivers.proofs.FourTails.{lists_for_all}
use Rattle.pdh_tests_of_receivers.proofs.rx.run_at_once.Goals as goal

pub take_watched-requires-clause-lists : goal.take_watched-requires-clause-lists
take_watched-requires-clause-lists c = lists_for_all _ _ (ap (λ (m : Meaning). m.leaves) c.in_ok-node.ensures.meaning) c.in_ok-port.ensures

pub each_got-requires : goal.each_got-requires
each_got-requires c k less = ap (λ h. h k) c.take_watched.ensures.drained.2 ∙ c.in_ok-port.ensures k less
