use Rattle.std.proofs.Common.{◌+◌, ap, arith}
use Rattle.pdh_packed.specs.Gaining.{gained}
use Rattle.pdh_tx.proofs.Telling.{all_none}
use Rattle.pdh_tx.proofs.LeafPieces.{leaf_makes, leaf_halts}
use Rattle.pdh_tx.proofs.leaf.LeafTx.make_clear.Goals as goal

pub returns-in-Ok-clause-made : goal.returns-in-Ok-clause-made
returns-in-Ok-clause-made g c x u =
    leaf_makes c.args.self.now.leaf _ _ _ _ x (x + c.args.count) (gained c.args.into.now c.take_bits.new.into) _ _ tt (λ supply. tt) (ap (λ n. x + n) c.in-Ok.ensures.ok) c.in-Ok.ensures.takes

pub returns-in-Err-clause-halts : goal.returns-in-Err-clause-halts
returns-in-Err-clause-halts g c x u =
    leaf_halts c.args.self.now.leaf _ x (x + c.args.count) (gained c.args.into.now c.take_bits.new.into) _ _ (omega (arith, c.in-Err.ensures.err)) c.in-Err.ensures.takes

pub returns-in-Ok-clause-told : goal.returns-in-Ok-clause-told
returns-in-Ok-clause-told g c = all_none g.G.SlipLog (record { nothing = g.met.G.SlipLog.logged_nothing; joins = g.met.G.SlipLog.logged_join; breaks = g.met.G.SlipLog.broken_join }) c.args._log.now

pub returns-in-Err-clause-told : goal.returns-in-Err-clause-told
returns-in-Err-clause-told g c = all_none g.G.SlipLog (record { nothing = g.met.G.SlipLog.logged_nothing; joins = g.met.G.SlipLog.logged_join; breaks = g.met.G.SlipLog.broken_join }) c.args._log.now
