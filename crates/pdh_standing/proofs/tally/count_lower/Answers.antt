use Rattle.std.proofs.Common.{ap, ◌∙◌, arith}
use Rattle.std.specs.Prelude.{fold}
use Rattle.std.proofs.lemmas.List.{take_all}
use Rattle.pdh_standing.specs.declared.tally.Walk.{Walk}
use Rattle.pdh_standing.specs.Counting.{walked, walk_begun, lower_counted}
use Rattle.pdh_standing.proofs.tally.count_lower.Goals as goal

pub returns : goal.returns
unfolding lower_counted
returns c =
    let whole = take_all c.loop-node.node-index c.args.nodes.now (omega (arith, c.loop-node-test.false)) in
    ap (λ (walk : Walk). walk.lower) (c.loop-node.invariant ∙ ap (fold walked walk_begun) whole)
