use Rattle.std.proofs.Common.{◌∙◌, ◌-◌, ap, arith}
use Rattle.pdh_chain.proofs.ChainLaws.{some_leaves}
use Rattle.pdh_tests_of_chains.proofs.chain.run_demux.Goals as goal

pub output-requires : goal.output-requires
output-requires c =
    let last = c.leaves-count.result - 1 in
    ap (λ h. h last) c.demux-end.ensures.kept.2 ∙ c.in_ok-port.ensures.has_leaves last (omega (arith, some_leaves c.args.chain, c.leaves-count.ensures.value))
