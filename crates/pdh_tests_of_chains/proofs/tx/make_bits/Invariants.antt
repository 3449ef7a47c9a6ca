use Rattle.std.proofs.Common.{◌≡◌, ℕ, false}
use Rattle.std.specs.Prelude.{All}
use Rattle.pdh_tx.specs.Meaning.{plan_in, IsNodeOf, HoldsAll}
use Rattle.pdh_tests_of_chains.proofs.tx.make_bits.Given as goal

abbrev pub invariant-loop-made : goal.invariant-loop-made
invariant-loop-made g l =
    record {
      running : g.T.Tx.is_stopped l.tx ≡ false;
      lists : HoldsAll (g.T.Tx.meaning l.tx).leaves (g.F.Feed.inputs l.feed);
      nodes : All (IsNodeOf l.clock.levels) (g.T.Tx.meaning l.tx).nodes;
      stands : (x : ℕ) × g.T.Tx.stands_at l.tx (plan_in l.clock g.G.SlipLog.takes) x;
    }
