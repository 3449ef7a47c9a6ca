use Rattle.std.proofs.Common.{◌≡◌, ◌++◌, subst}
use Rattle.pdh_rx.specs.Meaning.{Meaning}
use Rattle.pdh_claims_of_receivers.proofs.rx.nodes_below_not_counted.Goals as goal

pub returns : goal.returns
returns g c path ms line is stands =
    let P : Meaning → Type 0 = λ m. c.count_nodes.new.counts.items ≡ c.args.counts.now.items ++ m.counted line in
    subst P is (c.in_ok-count_nodes.ensures line stands)
