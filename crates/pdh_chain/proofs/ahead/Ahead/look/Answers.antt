use Rattle.pdh_tx.specs.Meaning.{plan_in}
use Rattle.pdh_chain.proofs.Frames.{free_more}
use Rattle.pdh_chain.proofs.ahead.Ahead.look.Goals as goal

pub returns-then-waiting-gt0-clause-clear : goal.returns-then-waiting-gt0-clause-clear
returns-then-waiting-gt0-clause-clear g c x here free =
    let feed = c.args.feed.now in
    free_more (g.T.Tx.meaning c.args.sender.now) (plan_in c.args.clock.now g.G.SlipLog.takes) x _ (g.F.Feed.inputs feed) (g.F.Feed.waits feed) (g.met.T.Tx.longer c.args.sender.now) (g.met.F.Feed.waits_left feed) (c.frames_waiting-waiting.ensures.free x here)
