use Rattle.std.proofs.Common.{take, drop, subst}
use Rattle.pdh_events.specs.laws.QuietLaws.{IsQuiet}
use Rattle.pdh_rx.specs.Meaning.{Meaning}
use Rattle.pdh_claims_of_receivers.proofs.rx.glides_over_an_event.Goals as goal

pub returns : goal.returns
returns g c path ms line is stands =
    let P : Meaning → Type 0 = λ m. IsQuiet m.notes line (take c.in_ok-count.count (drop c.args.from c.args.bits.now.bits)) in
    subst P is (c.in_ok-count.ensures.quiet line stands)
