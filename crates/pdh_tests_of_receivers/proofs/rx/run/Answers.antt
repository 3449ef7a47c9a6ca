use Rattle.std.proofs.Common.{ap, ◌∙◌}
use Rattle.pdh_rx.specs.Meaning.{Meaning}
use Rattle.pdh_tests_of_receivers.proofs.FourTails.{lists_for_all}
use Rattle.pdh_tests_of_receivers.proofs.rx.run.Goals as goal

pub receive-requires-clause-lists : goal.receive-requires-clause-lists
receive-requires-clause-lists c = lists_for_all _ _ (ap (λ (m : Meaning). m.leaves) c.in_ok-node.ensures.meaning) c.in_ok-port.ensures

pub each_got-requires : goal.each_got-requires
each_got-requires c k less = ap (λ h. h k) c.receive.ensures ∙ c.in_ok-port.ensures k less
