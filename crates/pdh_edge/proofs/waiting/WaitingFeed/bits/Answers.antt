use Rattle.std.proofs.Common.{◌≡◌, ◌<◌, length, refl, arith}
use Rattle.std.proofs.lemmas.Result.{IfOk-weaker}
use Rattle.pdh_packed.specs.Gaining.{gained}
use Rattle.pdh_edge.specs.laws.WaitingLaws.{takes_none, takes_waiting}
use Rattle.pdh_edge.proofs.Waits.{each_fewer}
use Rattle.pdh_edge.proofs.waiting.WaitingFeed.bits.Goals as goal

pub returns-then-waiting-eq0-clause-fed : goal.returns-then-waiting-eq0-clause-fed
returns-then-waiting-eq0-clause-fed g c =
    let feed = c.args.self.now.feed.now in
    (refl, g.met.F.Feed.fed_same feed, refl, takes_none (g.F.Feed.inputs feed) (g.F.Feed.waits feed))

pub returns-clause-ok : goal.returns-clause-ok
returns-clause-ok g c =
    let some : 0 < g.F.Feed.waits c.args.self.now.feed.now c.args.leaf = omega (arith, c.if-waiting-eq0.false, c.waiting.ensures) in
    let given = gained c.args.into.now c.bits.new.into in
    IfOk-weaker c.bits.result _ _ (λ count took. takes_waiting took (each_fewer c.args.leaf (length given) given refl c.bits.ensures.waits some)) c.bits.ensures.ok
