use Rattle.std.proofs.Common.{◌≡◌, ◌++◌, subst}
use Rattle.pdh_rx.specs.Meaning.{Meaning}
use Rattle.pdh_claims_of_receivers.proofs.desync.node_of_far_stores_not_counted.Goals as goal

pub returns : goal.returns
returns g c path first marks line is stands =
    let P : Meaning → Type 0 = λ m. c.count_nodes.new.counts.items ≡ c.args.counts.now.items ++ m.counted line in
    subst P is (c.in_ok-count_nodes.ensures line stands)
