use Rattle.std.proofs.Common.{ap, sym, ◌∙◌, subst, refl}
use Rattle.std.specs.Prelude.{All}
use Rattle.pdh_edge.proofs.Holding.{inputs_hold}
use Rattle.pdh_tx.specs.Meaning.{IsNodeOf}
use Rattle.pdh_tests_of_chains.proofs.FourLeaves.{below_four, one_node}
use Rattle.pdh_tests_of_chains.proofs.chain.made_bit_by_bit.Goals as goal

pub make_bits-requires-clause-lists : goal.make_bits-requires-clause-lists
make_bits-requires-clause-lists c k leaf = inputs_hold c.args.lists.items 4 k c.in_ok-feed.ensures.inputs c.requires (below_four k (ap (λ m. m.leaves k) (sym c.in_ok-node.ensures.meaning) ∙ leaf))

pub make_bits-requires-clause-nodes : goal.make_bits-requires-clause-nodes
make_bits-requires-clause-nodes c = subst (λ m. All (IsNodeOf c.in_ok-clock.clock.levels) m.nodes) (sym c.in_ok-node.ensures.meaning) (one_node c.in_ok-clock.clock.levels _ c.in_ok-clock.ensures.levels (record { len = refl; tribs = refl; low = refl; locked = refl }))

pub make_bits-requires-clause-stands : goal.make_bits-requires-clause-stands
make_bits-requires-clause-stands c = (0, c.in_ok-node.ensures.fresh.placed _)
