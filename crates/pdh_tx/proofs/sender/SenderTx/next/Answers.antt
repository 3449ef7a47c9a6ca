use Rattle.pdh_tx.proofs.NodeSteps.{fed_below}
use Rattle.pdh_tx.proofs.sender.SenderTx.next.Goals as goal

pub step-requires-clause-fed : goal.step-requires-clause-fed
step-requires-clause-fed g c = fed_below g.S.Shape.shape c.args.self.now.path (g.B.Body.meanings c.args.self.now.body) c.args.clock.now (g.F.Feed.inputs c.args.feed.now) c.requires.fed.lists c.requires.fed.nodes
