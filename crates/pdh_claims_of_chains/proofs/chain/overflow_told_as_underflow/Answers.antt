use Rattle.std.proofs.Common.{subst}
use Rattle.std.proofs.lemmas.Result.{IfErr-weaker}
use Rattle.pdh_tx.specs.Meaning.{mode_of}
use Rattle.pdh_chain.specs.Calls.{MuxStopsBy}
use Rattle.pdh_chain.specs.declared.stop.MuxStop.{MuxStop}
use Rattle.pdh_claims_of_chains.proofs.chain.overflow_told_as_underflow.Goals as goal

pub returns : goal.returns
returns g c =
    let Why : MuxStop → Type 0 = MuxStopsBy g.P.Feed g.P.Drain (mode_of g.G.SlipLog.takes) g.T.ChainTx.shapes c.args.clock.now c.args.feac c.args.frames c.args.port.now c.mux_with.new.port in
    IfErr-weaker c.mux_with.result _ _ (λ stop why over place is. let at = (subst Why is why).1 in (at.event, at.first, at.kind)) c.mux_with.ensures.err
