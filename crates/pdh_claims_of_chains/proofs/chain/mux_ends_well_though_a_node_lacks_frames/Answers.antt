use Rattle.std.proofs.Common.{sym, ◌∙◌}
use Rattle.pdh_claims_of_chains.proofs.Lines.{on_ok}
use Rattle.pdh_claims_of_chains.proofs.chain.mux_ends_well_though_a_node_lacks_frames.Goals as goal

pub returns : goal.returns
returns g c = on_ok c.mux_with.result _ _ (λ m x node below lacks. let never = sym (m.clear x below) ∙ lacks in absurd (cc)) c.mux_with.ensures.ok
