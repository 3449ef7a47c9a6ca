use Rattle.std.proofs.Common.{arith}
use Rattle.pdh_tx.specs.Meaning.{plan_in}
use Rattle.pdh_tx.proofs.NodeSteps.{fed_below}
use Rattle.pdh_tx.proofs.SenderSteps.{sender_free}
use Rattle.pdh_tx.proofs.sender.SenderTx.quiet.Goals as goal

pub quiet-requires-clause-slot : goal.quiet-requires-clause-slot
quiet-requires-clause-slot g c = omega (arith, c.requires.stands.1.inside, g.met.S.Shape.len_is)

pub quiet-requires-clause-fed : goal.quiet-requires-clause-fed
quiet-requires-clause-fed g c = fed_below g.S.Shape.shape c.args.self.now.path (g.B.Body.meanings c.args.self.now.body) c.args.clock.now (g.F.Feed.inputs c.args.feed.now) c.requires.fed.lists c.requires.fed.nodes

pub quiet-requires-clause-placed : goal.quiet-requires-clause-placed
quiet-requires-clause-placed g c = c.requires.stands.1.each

pub returns-clause-free : goal.returns-clause-free
returns-clause-free g c x was =
    let body = g.met.B.Body in
    sender_free g.S.Shape.shape g.B.Body.kind (body.is_kind c.args.self.now.body) c.args.self.now.path (plan_in c.args.clock.now g.G.SlipLog.takes) (g.B.Body.meanings c.args.self.now.body) (body.count c.args.self.now.body) _ c.args.self.now.at x was
    c.quiet.result (g.F.Feed.inputs c.args.feed.now) c.quiet.ensures.free
