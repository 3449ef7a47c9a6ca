use Rattle.std.proofs.Common.{subst}
use Rattle.pdh_rx.specs.Meaning.{Meaning}
use Rattle.pdh_claims_of_receivers.proofs.desync.events_are_dropped.Goals as goal

pub returns : goal.returns
returns g c path first marks line is stands =
    let P : Meaning → Type 0 = λ m. g.W.Watch.saw c.args.watch.now (m.notes line c.args.bit) c.push.new.watch in
    subst P is (c.in_ok-push.ensures.seen line stands)
