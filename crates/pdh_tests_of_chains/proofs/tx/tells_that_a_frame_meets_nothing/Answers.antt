use Rattle.std.proofs.Common.{ap, sym, ◌∙◌, subst, refl}
use Rattle.std.specs.Prelude.{All}
use Rattle.pdh_tx.specs.Meaning.{IsNodeOf}
use Rattle.pdh_tests_of_chains.proofs.FourLeaves.{below_four, one_node}
use Rattle.pdh_tests_of_chains.proofs.tx.tells_that_a_frame_meets_nothing.Goals as goal

pub quiet-plain-requires-clause-fed : goal.quiet-plain-requires-clause-fed
quiet-plain-requires-clause-fed g c = record {
  lists = λ k leaf. c.in_ok-feed.ensures k (below_four k (ap (λ m. m.leaves k) (sym c.in_ok-node.ensures.meaning) ∙ leaf));
  nodes = subst (λ m. All (IsNodeOf c.in_ok-clock.clock.levels) m.nodes) (sym c.in_ok-node.ensures.meaning) (one_node c.in_ok-clock.clock.levels _ c.in_ok-clock.ensures.levels (record { len = refl; tribs = refl; low = refl; locked = refl }));
}

pub quiet-plain-requires-clause-stands : goal.quiet-plain-requires-clause-stands
quiet-plain-requires-clause-stands g c = (0, c.in_ok-node.ensures.fresh.placed _)

pub quiet-slipping-requires-clause-fed : goal.quiet-slipping-requires-clause-fed
quiet-slipping-requires-clause-fed g c = record {
  lists = λ k leaf. c.in_ok-feed.ensures k (below_four k (ap (λ m. m.leaves k) (sym c.in_ok-node.ensures.meaning) ∙ leaf));
  nodes = subst (λ m. All (IsNodeOf c.in_ok-clock.clock.levels) m.nodes) (sym c.in_ok-node.ensures.meaning) (one_node c.in_ok-clock.clock.levels _ c.in_ok-clock.ensures.levels (record { len = refl; tribs = refl; low = refl; locked = refl }));
}

pub quiet-slipping-requires-clause-stands : goal.quiet-slipping-requires-clause-stands
quiet-slipping-requires-clause-stands g c = (0, c.in_ok-node.ensures.fresh.placed _)
