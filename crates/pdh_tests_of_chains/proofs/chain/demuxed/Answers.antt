use Rattle.std.proofs.Common.{◌∙◌, ap, arith}
use Rattle.pdh_edge.specs.Ports.{Outputs}
use Rattle.pdh_tests_of_chains.proofs.chain.demuxed.Goals as goal

pub output-requires : goal.output-requires
output-requires g c =
    let leaf = c.loop-leaf.leaf in
    ap (λ (o : Outputs). o.holds leaf) c.loop-leaf.invariant ∙ ap (λ h. h leaf) c.demux-end.ensures.kept.2 ∙ c.in_ok-port.ensures.has_leaves leaf (omega (arith, c.leaves-leaf-end.ensures.value))
