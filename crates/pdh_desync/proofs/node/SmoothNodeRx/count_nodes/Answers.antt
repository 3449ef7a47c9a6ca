use Rattle.std.proofs.Common.{◌++◌, ap, ◌∙◌}
use Rattle.std.proofs.lemmas.Result.{on_ok_weaker}
use Rattle.pdh_rx.specs.Meaning.{Meaning}
use Rattle.pdh_desync.proofs.node.SmoothNodeRx.count_nodes.Goals as goal

pub returns : goal.returns
returns g c =
    on_ok_weaker c.count_nodes.result (λ counted line told.
    counted line told.noting ∙ ap (λ (m : Meaning). c.args.counts.now.items ++ m.counted line) told.meaning_is) c.count_nodes.ensures
