use Rattle.std.proofs.Common.{◌≡◌, ◌++◌, ap, ◌∙◌, [], List, Bool}
use Rattle.pdh_line.specs.Paths.{top}
use Rattle.pdh_rx.specs.Meaning.{Meaning}
use Rattle.pdh_rx.specs.declared.counts.NodeCounts.{NodeCounts}
use Rattle.pdh_chain.specs.Counts.{node_counts}
use Rattle.pdh_chain.proofs.Counted.{counts_are}
use Rattle.pdh_standing.specs.Counting.{lower_counted}
use Rattle.pdh_standing.proofs.Walking.{lower_is}
use Rattle.pdh_standing.proofs.lower.lower_by.Goals as goal

pub returns : goal.returns
returns g c =
    let line : List Bool = c.args.line.now.bits in
    let shapes = g.R.ChainRx.shapes in
    let counted : c.count_nodes.new.counts.items ≡ node_counts shapes top line =
    c.in_ok-count_nodes.ensures line (c.in-Ok.ensures.taken.stands [] c.in_ok-receiver.ensures.stands)
    ∙ ap (λ (items : List NodeCounts). items ++ (g.R.Rx.meaning c.take_watched.new.receiver).counted line) c.new-nodes.ensures.items
    ∙ ap (λ (m : Meaning). m.counted line) (c.in-Ok.ensures.same ∙ c.in_ok-receiver.ensures.meaning) ∙ counts_are shapes top 0 line in
    c.count_lower.ensures ∙ ap lower_counted (c.deref.ensures.value ∙ counted) ∙ lower_is shapes line c.requires.depth
