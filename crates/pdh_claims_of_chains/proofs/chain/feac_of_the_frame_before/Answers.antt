use Rattle.pdh_claims_of_chains.proofs.Lines.{on_ok, put_behind}
use Rattle.pdh_claims_of_chains.proofs.chain.feac_of_the_frame_before.Goals as goal

pub returns : goal.returns
returns g c = on_ok c.mux_with.result _ _ (λ m old told. (m.line.given, put_behind old m.line told)) c.mux_with.ensures.ok
