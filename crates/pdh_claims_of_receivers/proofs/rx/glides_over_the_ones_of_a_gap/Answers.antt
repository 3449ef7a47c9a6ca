use Rattle.std.proofs.Common.{◌++◌, take, drop, subst}
use Rattle.pdh_rx.specs.Meaning.{Meaning, Gains}
use Rattle.pdh_claims_of_receivers.proofs.rx.glides_over_the_ones_of_a_gap.Goals as goal

pub returns : goal.returns
returns g c path ms line is stands =
    let now = line ++ take c.in_ok-count.count (drop c.args.from c.args.bits.now.bits) in
    let P : Meaning → Type 0 = λ m. Gains (m.got line) (m.got now) (g.D.Drain.outputs c.args.drain.now) (g.D.Drain.outputs c.glide.new._drain) in
    subst P is (c.in_ok-count.ensures.taken.gains line stands)
