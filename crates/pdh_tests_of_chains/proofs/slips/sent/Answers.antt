use Rattle.std.proofs.Common.{ap, sym, ◌∙◌, subst, refl}
use Rattle.std.specs.Prelude.{All}
use Rattle.pdh_tx.specs.Meaning.{IsNodeOf}
use Rattle.pdh_tests_of_chains.proofs.FourLeaves.{below_four, one_node}
use Rattle.pdh_tests_of_chains.proofs.slips.sent.Goals as goal

pub make_bits-requires-clause-lists : goal.make_bits-requires-clause-lists
make_bits-requires-clause-lists g c k leaf = c.in_ok-feed.ensures k (below_four k (ap (λ m. m.leaves k) (sym c.in_ok-node.ensures.meaning) ∙ leaf))

pub make_bits-requires-clause-nodes : goal.make_bits-requires-clause-nodes
make_bits-requires-clause-nodes g c = subst (λ m. All (IsNodeOf c.in_ok-clock.clock.levels) m.nodes) (sym c.in_ok-node.ensures.meaning) (one_node c.in_ok-clock.clock.levels _ c.in_ok-clock.ensures.levels (record { len = refl; tribs = refl; low = refl; locked = refl }))

pub make_bits-requires-clause-stands : goal.make_bits-requires-clause-stands
make_bits-requires-clause-stands g c = (0, c.in_ok-node.ensures.fresh.placed _)
